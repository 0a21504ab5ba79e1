-- Laws of writers of data: of one value, and of one behind another.
use Rattle.std.proofs.Math.Path.{◌≡◌, refl, subst}
use Rattle.std.proofs.Common.{sym, ap, ◌∙◌, append-nil, arith}
use Rattle.std.specs.Prelude.{List, [], ◌++◌, Bool, true, false, ℕ, ◌≤◌, ◌||◌, length, take, Option as Maybe, Some, None, unwrap_or, is_some, Ok, Err, IsErrAnd, IsOkAnd, MatchResult}
use Rattle.std.proofs.lemmas.Result.{err_from_is_err_and}
use Rattle.areas.specs.declared.area.TooLarge.{TooLarge}
use Rattle.std.proofs.Math.Option.{none, some}
use Rattle.spec_trees.specs.Tree.{Tree, trees}
use Rattle.spec_trees.specs.Bytes.{bytes, tree_fs}
use Rattle.areas.specs.Area.{Wrote, too_large, Out}
use Rattle.areas.specs.AreaLaws.{wrote_none, wrote_fail, wrote_seq, wrote_keep}
use Rattle.format.specs.Stand.{trees_bytes}
use Rattle.data.specs.Value.{Value, Written, WroteFound, value_of, is_large, end_of, found_of, answer_of, before}
use Rattle.spec_stages.specs.Paths.{Given, join}
use Rattle.paths.specs.Walk.{given}
use Rattle.paths.specs.ComparedLaws.{trees_append}

-- ---- one value
pub value_absent : (w : List ℕ) (d stop : ℕ) {x : Given} → x ≡ none → WroteFound w w d stop x (Ok None)
value_absent w d stop z = record {
  absent = λ q. (z, refl);
  fits = λ e q. let y : ◌≡◌ {A = ℕ} 0 1 = cc in absurd (omega arith);
  large = λ q. let y : ◌≡◌ {A = ℕ} 0 1 = cc in absurd (omega arith);
}

module _ {w v : List ℕ} {d stop : ℕ} {x : Given} where
  value_fits : {e : ℕ} → Written w v d stop x (Ok e) → WroteFound w v d stop x (Ok (Some e))
  value_fits {e} h = record {
    absent = λ q. let y : ◌≡◌ {A = ℕ} 0 1 = cc in absurd (omega arith);
    fits = λ f q. let z : e ≡ f = cc in subst (λ n. Written w v d stop x (Ok n)) z h;
    large = λ q. let y : ◌≡◌ {A = ℕ} 0 1 = cc in absurd (omega arith);
  }

  value_large : Written w v d stop x (Err too_large) → WroteFound w v d stop x (Err too_large)
  value_large h = record {
    absent = λ q. let y : ◌≡◌ {A = ℕ} 0 1 = cc in absurd (omega arith);
    fits = λ f q. let y : ◌≡◌ {A = ℕ} 0 1 = cc in absurd (omega arith);
    large = λ q. h;
  }

-- what a `?` says of an answer
pub ok_small : {r : Value} {x : Maybe ℕ} → r ≡ Ok x → is_large r ≡ false
ok_small q = ap is_large q

pub err_large : {r : Value} {e : TooLarge} → r ≡ Err e → is_large r ≡ true
err_large q = ap is_large q

pub ok_end : {r : Value} {x : Maybe ℕ} (d : ℕ) {f : ℕ} → r ≡ Ok x → f ≡ unwrap_or x d → f ≡ end_of r d
ok_end d q p = p ∙ sym (ap (λ (r : Value). end_of r d) q)

pub ok_found : {r : Value} {x : Maybe ℕ} (s : Bool) {t : Bool} → r ≡ Ok x → t ≡ s || is_some x → t ≡ found_of r s
ok_found s q p = p ∙ sym (ap (λ (r : Value). found_of r s) q)

pub large_on : (Q : TooLarge → Type 0) (r : Value) → IsErrAnd r Q → r ≡ Err too_large
large_on Q r h = (err_from_is_err_and {Q = Q} r h).1

-- the answer of a writer of an array, whose own answer a `?` took apart
pub value_ok : {r : Out} {e : ℕ} → r ≡ Ok e → Ok (Some e) ≡ value_of r
value_ok q = sym (ap value_of q)

pub value_err : {r : Out} {e : TooLarge} → r ≡ Err e → Err too_large ≡ value_of r
value_err q = sym (ap value_of q)

-- the same, by Result's `map`
pub mapped : (r : Out) (s : Value) → MatchResult r (λ x. IsOkAnd s (λ y. y ≡ Some x)) (λ e. s ≡ Err e) → s ≡ value_of r
mapped (Ok e) (Ok x) h = ap Ok h
mapped (Ok e) (Err x) h = absurd h
mapped (Err e) s h = h

-- an array whose trees were written
pub value_array : {w v : List ℕ} {d stop : ℕ} {x : Given} (a : List Tree) (r : Out) → x ≡ some a → Wrote w v d stop (trees_bytes (trees a)) r
    → WroteFound w v d stop x (value_of r)
value_array a (Ok e) z h = value_fits record { array = a; same = z; wrote = h }
value_array a (Err _) z h = value_large record { array = a; same = z; wrote = h }

-- what stands below d stays
pub value_keep : {w v : List ℕ} {d stop : ℕ} {x : Given} (r : Value) → d ≤ length w → WroteFound w v d stop x r → take d v ≡ take d w
value_keep {d = d} (Ok None) b h = ap (take d) (h.absent refl).1
value_keep (Ok (Some e)) b h = wrote_keep (h.fits e refl).wrote b
value_keep (Err _) b h = wrote_keep (h.large refl).wrote b

-- where it ends
pub value_end : {w v : List ℕ} {d stop : ℕ} {x : Given} (r : Value) → d ≤ stop → WroteFound w v d stop x r → (d ≤ end_of r d) × (end_of r d ≤ stop)
value_end (Ok None) b h = (omega arith, b)
value_end (Ok (Some e)) b h = let f = (h.fits e refl).wrote.fits e refl in (omega (arith, f.ends), f.room)
value_end (Err _) b h = (omega arith, b)

-- ---- one value behind another: s says whether an array stands before d

-- an array, joined with what stands before it and behind it
array_behind : (s : Bool) (a : List Tree) (y : Given) → join (before s) (join (some a) y) ≡ some (a ++ given y)
unfolding join given
array_behind true a none = ap some (sym (append-nil a))
array_behind true a (some b) = refl
array_behind false a none = ap some (sym (append-nil a))
array_behind false a (some b) = refl

array_before : (y : Given) → join (some []) y ≡ some (given y)
unfolding join given
array_before none = refl
array_before (some b) = refl

some_array : (a b : List Tree) → ◌≡◌ {A = Given} (some a) (some b) → a ≡ b
some_array a b q = cc

-- an array that was written, and one behind it
module _ {w v u : List ℕ} {d e stop : ℕ} (a : List Tree) (b : d ≤ length w) (h : Wrote w v d stop (trees_bytes (trees a)) (Ok e)) where
  written_behind : (ys : List Tree) {o : Out} → Written v u e stop (some ys) o → Wrote w u d stop (trees_bytes (trees (a ++ ys))) o
  written_behind ys {o} k =
      let z : trees_bytes (trees a) ++ trees_bytes (trees k.array) ≡ trees_bytes (trees (a ++ ys)) =
      ap (λ l. trees_bytes (trees a) ++ trees_bytes (trees l)) (sym (some_array ys k.array k.same)) ∙ sym (trees_append a ys) in
      subst (λ l. Wrote w u d stop l o) z (wrote_seq h b refl k.wrote)

  behind : (ys : List Tree) (r : Value) → WroteFound v u e stop (some ys) r → WroteFound w u d stop (some (a ++ ys)) r
  behind ys (Ok None) k = let n = (k.absent refl).0 in let y : ◌≡◌ {A = ℕ} 0 1 = cc in absurd (omega arith)
  behind ys (Ok (Some f)) k = value_array (a ++ ys) (Ok f) refl (written_behind ys (k.fits f refl))
  behind ys (Err _) k = value_array (a ++ ys) (Err too_large) refl (written_behind ys (k.large refl))

or_false : (s : Bool) → s || false ≡ s
or_false true = refl
or_false false = refl

or_true : (s : Bool) → s || true ≡ true
or_true true = refl
or_true false = refl

module _ {w v : List ℕ} {d stop : ℕ} (s : Bool) {x : Given} where
  -- a value that fits, and those behind it
  pub value_next : (r : Value) → d ≤ length w → is_large r ≡ false → WroteFound w v d stop x r → {f : ℕ} {t : Bool} → f ≡ end_of r d → t ≡ found_of r s
      → {u : List ℕ} (y : Given) (o : Value) → WroteFound v u f stop (join (before t) y) o → WroteFound w u d stop (join (before s) (join x y)) o
  unfolding join
  value_next (Ok None) b n h {f} {t} p q {u} y o k =
      let z = h.absent refl in
      let k2 = subst (λ c. WroteFound v u d stop (join (before c) y) o) (q ∙ or_false s) (subst (λ c. WroteFound v u c stop (join (before t) y) o) p k) in
      subst (λ c. WroteFound w u d stop (join (before s) (join c y)) o) (sym z.0) (subst (λ c. WroteFound c u d stop (join (before s) y) o) z.1 k2)
  value_next (Ok (Some e)) b n h {f} {t} p q {u} y o k =
      let g = h.fits e refl in
      let k2 = subst (λ c. WroteFound v u e stop (join (before c) y) o) (q ∙ or_true s) (subst (λ c. WroteFound v u c stop (join (before t) y) o) p k) in
      let m = behind g.array b g.wrote (given y) o (subst (λ c. WroteFound v u e stop c o) (array_before y) k2) in
      subst (λ c. WroteFound w u d stop (join (before s) (join c y)) o) (sym g.same) (subst (λ c. WroteFound w u d stop c o) (sym (array_behind s g.array y)) m)
  value_next (Err _) b n h p q y o k = let z : ◌≡◌ {A = ℕ} 0 1 = cc in absurd (omega arith)

  -- one that does not fit
  pub value_stop : (r : Value) → is_large r ≡ true → WroteFound w v d stop x r → (y : Given) → WroteFound w v d stop (join (before s) (join x y)) (Err too_large)
  value_stop (Ok None) n h y = let z : ◌≡◌ {A = ℕ} 0 1 = cc in absurd (omega arith)
  value_stop (Ok (Some e)) n h y = let z : ◌≡◌ {A = ℕ} 0 1 = cc in absurd (omega arith)
  value_stop (Err _) n h y =
      let g = h.large refl in
      let k = subst (λ l. Wrote w v d stop l (Err too_large)) (sym (trees_append g.array (given y))) (wrote_fail g.wrote (trees_bytes (trees (given y))) refl) in
      subst (λ c. WroteFound w v d stop (join (before s) (join c y)) (Err too_large)) (sym g.same)
      (value_array (g.array ++ given y) (Err too_large) (array_behind s g.array y) k)

-- none is left
pub value_done : (w : List ℕ) (d stop : ℕ) (s : Bool) → d ≤ stop → WroteFound w w d stop (join (before s) none) (answer_of s d)
unfolding join bytes tree_fs
value_done w d stop true b = value_array [] (Ok d) refl (wrote_none w d stop b)
value_done w d stop false b = value_absent w d stop refl
