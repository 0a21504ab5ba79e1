-- `check::is_bare`: the six bytes of the two heads.
use Rattle.std.proofs.Common.{arith, ◌≡◌, sym, ◌∙◌, ℕ, eqb-true}
use Rattle.format.specs.CheckLaws.{bare_at}
use Rattle.format.proofs.check.is_bare.Goals as goal

pub returns-then-stop-at : goal.returns-then-stop-at
returns-then-stop-at c =
    λ e. let z : ◌≡◌ {A = ℕ} 0 1 = cc in
    absurd (omega arith)

pub returns-then-low_four-len : goal.returns-then-low_four-len
returns-then-low_four-len c =
    λ e. let z : ◌≡◌ {A = ℕ} 0 1 = cc in
    absurd (omega arith)

pub returns : goal.returns
returns c =
    λ e. bare_at c.args.area.now c.args.at c.args.stop c.args.tag c.args.len c.requires.1 c.requires.0 c.requires.3 (λ
    i. omega (arith, c.type_inv.area i)) c.if-stop-at.false (sym c.low_four.ensures ∙
    c.if-low_four-len.false) (sym c.low_two.ensures.0 ∙ eqb-true _ _ e)
