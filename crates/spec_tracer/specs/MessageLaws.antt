-- A message is read as the lines whose bytes it is, and as no others.
use Rattle.std.specs.Prelude.{◌≡◌, refl, List, [], ◌∷◌, ◌++◌, ◌↔◌, true, ℕ, zero, suc, ◌≤◌, ◌<◌, length}
use Rattle.std.proofs.Common.{sym, ap, subst, ◌∙◌, arith}
use Rattle.std.proofs.Math.Option.{Option, none, some, map}
use Rattle.spec_trees.specs.Options.{◌>>=◌}
use Rattle.spec_trees.specs.Lists.{All}
use Rattle.spec_trees.specs.OptionLaws.{bind_some, map_some}
use Rattle.spec_tracer.specs.Message.{Line, line_bytes, message_bytes, is_line}
use Rattle.spec_tracer.specs.Reading.{line, lines, message}
use Rattle.spec_tracer.specs.LineLaws.{line_back, line_form, line_shorter}

-- ---- the lines of a message, one by one

-- the line l before those that are read of the rest
abbrev pub before : Line → Option (List Line) → Option (List Line)
before l x = map (λ ls. l ∷ ls) x

-- with enough to count by, it does not matter how much: of the first line, where that holds of the rest
first_same : (n k : ℕ) (m : List ℕ) (x : Option (Line × List ℕ)) → ((q : Line × List ℕ) → x ≡ some q → lines n q.1 ≡ lines k q.1)
    → (x >>= λ l. before l.0 (lines n l.1)) ≡ (x >>= λ l. before l.0 (lines k l.1))
unfolding ◌>>=◌
first_same n k m none h = refl
first_same n k m (some q) h = ap (before q.0) (h q refl)

lines_same : (n k : ℕ) (m : List ℕ) → length m ≤ n → length m ≤ k → lines n m ≡ lines k m
unfolding lines
lines_same zero zero m h g = refl
lines_same zero (suc k) [] h g = refl
lines_same zero (suc k) (b ∷ m) h g = absurd (omega (arith, h))
lines_same (suc n) zero [] h g = refl
lines_same (suc n) zero (b ∷ m) h g = absurd (omega (arith, g))
lines_same (suc n) (suc k) [] h g = refl
lines_same (suc n) (suc k) (b ∷ m) h g = first_same n k m (line (b ∷ m))
    (λ q e. let s = line_shorter (b ∷ m) q e in lines_same n k q.1 (omega (arith, s)) (omega (arith, s)))

pub message_none : message [] ≡ some []
unfolding message lines
message_none = refl

-- a line, and then the rest
pub message_next : (m : List ℕ) (q : Line × List ℕ) → line m ≡ some q → message m ≡ before q.0 (message q.1)
unfolding message lines ◌>>=◌
message_next [] q e = absurd (omega (arith, line_shorter [] q e))
message_next (b ∷ m) q e =
    let s = line_shorter (b ∷ m) q e in
    rw e (ap (before q.0) (lines_same (length m) (length q.1) q.1 (omega (arith, s)) (omega arith)))

pub message_refused : (m : List ℕ) → 0 < length m → line m ≡ none → message m ≡ none
unfolding message lines ◌>>=◌
message_refused [] h e = absurd (omega (arith, h))
message_refused (b ∷ m) h e = rw e refl

-- ---- written and read

-- every line is in form
abbrev pub InForm : List Line → Type 0
InForm ls = All (λ l. is_line l ≡ true) ls

pub message_back : (ls : List Line) → InForm ls → message (message_bytes ls) ≡ some ls
unfolding message_bytes
message_back [] h = message_none
message_back (l ∷ ls) h =
    message_next (line_bytes l ++ message_bytes ls) (l, message_bytes ls) (line_back l (message_bytes ls) h.0)
    ∙ ap (before l) (message_back ls h.1)

-- ---- read and written
lines_form : (n : ℕ) (m : List ℕ) (ls : List Line) → lines n m ≡ some ls → (message_bytes ls ≡ m) × InForm ls
unfolding lines message_bytes
lines_form zero [] ls e = let q : [] ≡ ls = cc in rw (← q) (refl, tt)
lines_form zero (b ∷ m) ls e = let z : ◌≡◌ {A = ℕ} 0 1 = cc in absurd (omega arith)
lines_form (suc n) [] ls e = let q : [] ≡ ls = cc in rw (← q) (refl, tt)
lines_form (suc n) (b ∷ m) ls e =
    let (q, e1, z1) = bind_some _ (line (b ∷ m)) e in
    let (rs, e2, z2) = map_some _ (lines n q.1) z1 in
    let f = line_form (b ∷ m) q e1 in
    let (x, y) = lines_form n q.1 rs e2 in
    subst (λ k. (message_bytes k ≡ b ∷ m) × InForm k) z2 (ap (λ k. line_bytes q.0 ++ k) x ∙ sym f.bytes, (f.formed, y))

-- a message is read as lines just if it is their bytes and they are in form
pub message_form : (m : List ℕ) (ls : List Line) → (message m ≡ some ls) ↔ ((message_bytes ls ≡ m) × InForm ls)
unfolding message
message_form m ls = (λ e. lines_form (length m) m ls e, λ h. sym (ap message h.0) ∙ message_back ls h.1)

-- the lines that were read are in form
pub message_formed : (m : List ℕ) (ls : List Line) → message m ≡ some ls → InForm ls
message_formed m ls e = ((message_form m ls).0 e).1
