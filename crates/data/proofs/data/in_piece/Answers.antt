-- The proof of data::data::in_piece, by answers to its goals.
use Rattle.std.proofs.Common.{arith, ◌≡◌, ℕ, eqb-true}
use Rattle.data.proofs.data.in_piece.Goals as goal

pub returns-then-divisor-eq0 : goal.returns-then-divisor-eq0
returns-then-divisor-eq0 c = λ z. (c.if-divisor-eq0.true, eqb-true _ _ z)

pub returns : goal.returns
returns c =
    λ z. let y : ◌≡◌ {A = ℕ} 0 1 = cc in
    absurd (omega arith)
