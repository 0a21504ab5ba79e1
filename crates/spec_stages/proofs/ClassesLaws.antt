-- Laws of classes: what is found in the whole array, subset by subset, are the classes of the group.
use Rattle.std.specs.Prelude.{◌≡◌, Bool, false, ◌&&◌, ℕ, ◌^◌, length, eqb}
use Rattle.std.proofs.Math.Path.{refl, sym, ap}
use Rattle.std.proofs.Common.{◌∙◌}
use mathlib.Core.List.{List, [], ◌∷◌, ◌++◌}
use Rattle.std.proofs.Math.Bool.{true, cond, not}
use Rattle.spec_trees.specs.OptionLaws.{split, apart}
use Rattle.spec_trees.specs.Lists.{filter, all, gather}
use Rattle.spec_trees.specs.ListLaws.{All-every}
use Rattle.spec_trees.specs.FilterLaws.{all_append, filter_implied, gather_same}
use Rattle.spec_trees.specs.Tree.{Tree}
use Rattle.spec_queries.specs.Query.{Pair}
use Rattle.spec_stages.specs.Group.{key, alike, sum, having, classes, upto, grouped}
use Rattle.spec_stages.specs.Classes.{unlike, begins, scan}
use Rattle.spec_stages.proofs.AlikeLaws.{alike_keys}

-- ---- booleans
and_last : (a b : Bool) → (b && a) ≡ (a && (b && true))
and_last true true = refl
and_last true false = refl
and_last false true = refl
and_last false false = refl

and_yes : (a : Bool) → (a && true) ≡ a
and_yes true = refl
and_yes false = refl

-- ---- trees that were seen
unlike_behind : (gs : List Pair) (seen : List Tree) (t x : Tree) → unlike gs (seen ++ (t ∷ [])) x ≡ (unlike gs seen x && (not (alike gs t x) && true))
unfolding unlike all
unlike_behind gs seen t x = all_append (λ u. not (alike gs u x)) seen (t ∷ [])

module _ (gs : List Pair) (m : ℕ) where
  -- t has the sources present whose sum is m
  abbrev in_subset : Tree → Bool
  in_subset t = eqb (sum (key gs t)) m

  -- the same of two trees that are alike
  same_subset : (t u : Tree) → alike gs t u ≡ true → in_subset t ≡ in_subset u
  same_subset t u e = ap (λ n. eqb n m) (alike_keys sum gs t u e)

  -- the others like a tree of the subset are of the subset
  others : (t : Tree) → in_subset t ≡ true → (ts : List Tree) → filter (alike gs t) (filter in_subset ts) ≡ filter (alike gs t) ts
  others t z ts = filter_implied (alike gs t) in_subset (λ u e. sym (same_subset t u e) ∙ z) ts

  -- two lists of trees that a tree of the subset is unlike alike
  abbrev Agree : List Tree → List Tree → Type 0
  Agree seen all_seen = (x : Tree) → in_subset x ≡ true → unlike gs seen x ≡ unlike gs all_seen x

  agree_with : (seen all_seen : List Tree) → Agree seen all_seen → (t : Tree) → Agree (t ∷ seen) (all_seen ++ (t ∷ []))
  unfolding unlike all
  agree_with seen all_seen h t x z =
      ap (λ b. not (alike gs t x) && b) (h x z) ∙ and_last (unlike gs all_seen x) (not (alike gs t x)) ∙ sym (unlike_behind gs all_seen t x)

  agree_without : (seen all_seen : List Tree) → Agree seen all_seen → (t : Tree) → in_subset t ≡ false → Agree seen (all_seen ++ (t ∷ []))
  agree_without seen all_seen h t p x z =
      let n : alike gs t x ≡ false = split (alike gs t x) (λ e. apart z (sym (same_subset t x e) ∙ p)) (λ e. e) in
      h x z ∙ sym (unlike_behind gs all_seen t x ∙ ap (λ b. unlike gs all_seen x && (not b && true)) n ∙ and_yes (unlike gs all_seen x))

  -- the classes among the trees of the subset are found in the whole array
  found : (seen all_seen : List Tree) → Agree seen all_seen → (ts : List Tree) → classes (alike gs) seen (filter in_subset ts) ≡ scan gs m all_seen ts
  unfolding filter classes scan begins unlike
  found seen all_seen h [] = refl
  found seen all_seen h (t ∷ ts) =
      split (in_subset t)
      (λ p. with_it p (found (t ∷ seen) (all_seen ++ (t ∷ [])) (agree_with seen all_seen h t) ts))
      (λ p. without_it p (found seen (all_seen ++ (t ∷ [])) (agree_without seen all_seen h t p) ts))
    where
      with_it : in_subset t ≡ true → classes (alike gs) (t ∷ seen) (filter in_subset ts) ≡ scan gs m (all_seen ++ (t ∷ [])) ts
          → classes (alike gs) seen (filter in_subset (t ∷ ts)) ≡ scan gs m all_seen (t ∷ ts)
      with_it p ih =
          ap (λ b. classes (alike gs) seen (cond b (t ∷ filter in_subset ts) (filter in_subset ts))) p
          ∙ ap (λ b. cond b ((t, filter (alike gs t) (filter in_subset ts)) ∷ classes (alike gs) (t ∷ seen) (filter in_subset ts)) (classes (alike gs) (t ∷ seen) (filter in_subset ts))) (h t p)
          ∙ ap (λ l. cond (unlike gs all_seen t) ((t, l) ∷ classes (alike gs) (t ∷ seen) (filter in_subset ts)) (classes (alike gs) (t ∷ seen) (filter in_subset ts))) (others t p ts)
          ∙ ap (λ l. cond (unlike gs all_seen t) ((t, filter (alike gs t) ts) ∷ l) l) ih
          ∙ ap (λ b. cond (b && unlike gs all_seen t) ((t, filter (alike gs t) ts) ∷ scan gs m (all_seen ++ (t ∷ [])) ts) (scan gs m (all_seen ++ (t ∷ [])) ts)) (sym p)

      without_it : in_subset t ≡ false → classes (alike gs) seen (filter in_subset ts) ≡ scan gs m (all_seen ++ (t ∷ [])) ts
          → classes (alike gs) seen (filter in_subset (t ∷ ts)) ≡ scan gs m all_seen (t ∷ ts)
      without_it p ih =
          ap (λ b. classes (alike gs) seen (cond b (t ∷ filter in_subset ts) (filter in_subset ts))) p
          ∙ ih
          ∙ ap (λ b. cond (b && unlike gs all_seen t) ((t, filter (alike gs t) ts) ∷ scan gs m (all_seen ++ (t ∷ [])) ts) (scan gs m (all_seen ++ (t ∷ [])) ts)) (sym p)

-- ---- the whole
pub grouped_scan : (gs : List Pair) (ts : List Tree) → grouped gs ts ≡ gather (λ m. scan gs m [] ts) (upto (2 ^ length gs))
unfolding grouped having unlike all
grouped_scan gs ts =
    let ms = upto (2 ^ length gs) in
    gather_same (λ m. classes (alike gs) [] (having gs m ts)) (λ m. scan gs m [] ts) ms (All-every (λ m. found gs m [] [] (λ x z. refl) ts) ms)
