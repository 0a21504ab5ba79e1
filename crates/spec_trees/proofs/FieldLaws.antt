-- Fields and their bytes: each is read back from the other, for every tag and length.
use Rattle.std.specs.Prelude.{◌≡◌, refl, List, [], ◌∷◌, ◌++◌, ℕ, zero, suc, ◌+◌, ◌*◌, ◌^◌, ◌≤◌, ◌<◌, length, take, drop, T, leb}
use Rattle.std.proofs.Common.{sym, ap, subst, ◌∙◌, append_assoc, append-nil, div-add-mod', le_of_suc-le-suc, not-suc-le-zero, arith, length-append, take-append-drop, length-take-le, leb→le}
use Rattle.std.proofs.Math.Option.{some, map}
use Rattle.std.proofs.Math.Seq.{take-append_seam, drop-append_seam}
use Rattle.std.proofs.Math.Pow.{high, low}
use Rattle.spec_trees.specs.Options.{only}
use Rattle.spec_trees.specs.Lists.{All}
use Rattle.spec_trees.specs.Bytes.{Field, field_bytes, bytes}
use Rattle.spec_trees.specs.Readers.{split, fields}
use Rattle.spec_trees.specs.Within.{AllBytes}
use Rattle.spec_trees.specs.OptionLaws.{leb_yes, only_some, map_some}
use Rattle.spec_trees.specs.ListLaws.{All-drop, All-left, All-right}

pub length_bytes : (f : Field) (fs : List Field) → length (bytes (f ∷ fs)) ≡ 3 + length f.1 + length (bytes fs)
unfolding bytes
length_bytes f fs = simp length-append (omega arith)

pub bytes_one : (f : Field) → bytes (f ∷ []) ≡ field_bytes f
unfolding bytes
bytes_one f = append-nil (field_bytes f)

pub bytes_append : (fs gs : List Field) → bytes (fs ++ gs) ≡ bytes fs ++ bytes gs
unfolding bytes
bytes_append [] gs = refl
bytes_append (f ∷ fs) gs =
    ap (λ b. field_bytes f ++ b) (bytes_append fs gs) ∙ sym (append_assoc (field_bytes f) (bytes fs) (bytes gs))

-- ---- written and read
split_bytes : (fs : List Field) (n : ℕ) → length fs ≤ n → split n (bytes fs) ≡ some fs
unfolding split bytes only
split_bytes [] zero h = refl
split_bytes [] (suc n) h = refl
split_bytes (f ∷ fs) zero h = absurd (not-suc-le-zero h)
split_bytes (f ∷ fs) (suc n) h =
    let m : length f.1 ≤ length (f.1 ++ bytes fs) = simp length-append (omega arith) in
    let ih : split n (bytes fs) ≡ some fs = split_bytes fs n (le_of_suc-le-suc h) in
    rw (div-add-mod', leb_yes, take-append_seam f.1 (bytes fs), drop-append_seam f.1 (bytes fs), ih) refl

count_bytes : (fs : List Field) → length fs ≤ length (bytes fs)
unfolding bytes
count_bytes [] = omega arith
count_bytes (f ∷ fs) = let ih = count_bytes fs in simp length-append (omega arith)

pub fields_bytes : (fs : List Field) → fields (bytes fs) ≡ some fs
unfolding fields
fields_bytes fs = split_bytes fs (length (bytes fs)) (count_bytes fs)

-- ---- read and written
bytes_split : (n : ℕ) (b : List ℕ) (fs : List Field) → AllBytes b → split n b ≡ some fs → bytes fs ≡ b
unfolding split bytes
bytes_split zero [] fs h e = let q : [] ≡ fs = cc in rw (← q) refl
bytes_split zero (t ∷ b) fs h e = let z : ◌≡◌ {A = ℕ} 0 1 = cc in absurd (omega arith)
bytes_split (suc n) [] fs h e = let q : [] ≡ fs = cc in rw (← q) refl
bytes_split (suc n) (t ∷ []) fs h e = let z : ◌≡◌ {A = ℕ} 0 1 = cc in absurd (omega arith)
bytes_split (suc n) (t ∷ x ∷ []) fs h e = let z : ◌≡◌ {A = ℕ} 0 1 = cc in absurd (omega arith)
bytes_split (suc n) (t ∷ x ∷ y ∷ c) fs h e =
    let m : ℕ = x * 256 + y in
    let o : T (leb m (length c)) × (map (λ fs. (t, take m c) ∷ fs) (split n (drop m c)) ≡ some fs) = only_some _ _ e in
    let (gs, e2, e3) = map_some _ _ o.1 in
    let ih : bytes gs ≡ drop m c = bytes_split n (drop m c) gs (All-drop (λ x. x < 256) m c h.1.1.1) e2 in
    let l : m ≤ length c = leb→le _ _ o.0 in
    let lo : y < 2 ^ 8 = h.1.1.0 in
    rw (← e3, ih, length-take-le m c l, take-append-drop m c, high x 8 lo, low x 8 lo) refl

-- each content is bytes
abbrev pub BytesF : List Field → Type 0
BytesF fs = All (λ (f : Field). AllBytes f.1) fs

contents : (fs : List Field) → AllBytes (bytes fs) → BytesF fs
unfolding bytes
contents [] h = tt
contents (f ∷ fs) h =
    let r = h.1.1.1 in
    (All-left (λ x. x < 256) f.1 (bytes fs) r, contents fs (All-right (λ x. x < 256) f.1 (bytes fs) r))

-- bytes that were read as fields
pub record Parts (b : List ℕ) (fs : List Field) : Type 0 where
  pub form : bytes fs ≡ b
  pub contents : BytesF fs

pub parts : (b : List ℕ) (fs : List Field) → AllBytes b → fields b ≡ some fs → Parts b fs
unfolding fields
parts b fs h e =
    let q : bytes fs ≡ b = bytes_split (length b) b fs h e in
    record { form = q; contents = contents fs (subst AllBytes (sym q) h) }
