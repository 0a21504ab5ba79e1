-- Stages other than group carry tree by tree: what comes of an input tree, and bears its position, hangs on that tree alone.
use Rattle.std.specs.Prelude.{◌≡◌, Bool, true, false, cond, ℕ, zero, suc, ◌+◌, ◌<◌, length}
use Rattle.std.proofs.Math.Path.{refl, sym, ap, fun_ext}
use Rattle.std.proofs.Common.{ap₂, ◌∙◌, arith, ne_eqb}
use mathlib.Core.List.{List, [], ◌∷◌, ◌++◌, append-nil}
use Rattle.std.proofs.Math.Option.{Option, none, some, map}
use Rattle.std.proofs.Math.ListN.{get_elem?}
use Rattle.std.proofs.Math.Dec.{eqb}
use Rattle.spec_trees.specs.Options.{◌>>=◌, maybe}
use Rattle.spec_trees.specs.OptionLaws.{eqb_same}
use Rattle.spec_trees.specs.Lists.{filter, gather, each}
use Rattle.spec_trees.specs.FilterLaws.{filter_constant, gather_append, gather_filter}
use Rattle.spec_trees.specs.Tree.{Tree}
use Rattle.spec_queries.specs.Query.{Stage, match, unwind, project, group, lookup}
use Rattle.spec_stages.specs.Criteria.{holds}
use Rattle.spec_stages.specs.Unwind.{unwound}
use Rattle.spec_stages.specs.Project.{projected}
use Rattle.spec_stages.specs.Lookup.{looked}
use Rattle.spec_stages.specs.Stages.{performed, is_group, going, large, after, stages}
use Rattle.spec_stages.specs.Join.{GroupFree}
use Rattle.spec_stages.specs.Positions.{Borne, unmarked, marked, numbered, sole, onward, carry, carried, result_positions, lines, bearing}
use Rattle.spec_stages.specs.GoingLaws.{stages_going}
use Rattle.spec_stages.proofs.PositionLaws.{marked_bear, carried_marked, result_lines}

-- ---- one stage
-- what a stage makes of a tree alone, which bears that tree's position
abbrev pub alone : List Tree → Stage → Tree → List Tree
alone us s t = maybe [] (λ ts. ts) (performed us s (t ∷ []))

each_alone : (f : Tree → Option Tree) (t : Tree) → sole (f t) ≡ maybe [] (λ ts. ts) (each f (t ∷ []))
unfolding each sole maybe ◌>>=◌
each_alone f t = go (f t)
  where
    go : (x : Option Tree) → sole x ≡ maybe [] (λ ts. ts) (x >>= λ y. map (λ ys. y ∷ ys) (some []))
    go none = refl
    go (some y) = refl

match_alone : (f : Tree → Bool) (bs : List Borne) → filter (λ b. f b.tree) bs ≡ onward (λ t. filter f (t ∷ [])) bs
unfolding filter gather marked
match_alone f [] = refl
match_alone f (b ∷ bs) = rw (match_alone f bs) (go (f b.tree) (onward (λ t. filter f (t ∷ [])) bs))
  where
    go : (c : Bool) (l : List Borne) → cond c (b ∷ l) l ≡ marked b.position (cond c (b.tree ∷ []) []) ++ l
    go true l = refl
    go false l = refl

pub carry_alone : (us : List Tree) (s : Stage) (bs : List Borne) → is_group s ≡ false → carry us s bs ≡ onward (alone us s) bs
unfolding carry performed is_group maybe gather
carry_alone us (match c) bs h = match_alone (holds c) bs
carry_alone us (unwind p) bs h = ap (λ f. onward f bs) (fun_ext (λ t. sym (append-nil (unwound p t))))
carry_alone us (project is) bs h = ap (λ f. onward f bs) (fun_ext (each_alone (projected is)))
carry_alone us (group ag gs) bs h = let z : ◌≡◌ {A = ℕ} 0 1 = cc in absurd (omega arith)
carry_alone us (lookup q r p) bs h = ap (λ f. onward f bs) (fun_ext (each_alone (looked q r p us)))

marked_bearing : (i n : ℕ) (ts : List Tree) → bearing i (marked n ts) ≡ cond (eqb n i) (marked n ts) []
unfolding bearing
marked_bearing i n ts = filter_constant (λ b. eqb b.position i) (eqb n i) (marked n ts) (marked_bear (λ k. eqb k i ≡ eqb n i) n ts refl)

module _ (us : List Tree) (s : Stage) (h : is_group s ≡ false) where
  carry_none : carry us s [] ≡ []
  unfolding gather
  carry_none = carry_alone us s [] h

  carry_append : (a b : List Borne) → carry us s (a ++ b) ≡ carry us s a ++ carry us s b
  carry_append a b =
      carry_alone us s (a ++ b) h ∙ gather_append (λ u. marked u.position (alone us s u.tree)) a b
      ∙ sym (ap₂ ◌++◌ (carry_alone us s a h) (carry_alone us s b h))

  carry_bearing : (i : ℕ) (bs : List Borne) → bearing i (carry us s bs) ≡ carry us s (bearing i bs)
  unfolding bearing
  carry_bearing i bs =
      ap (bearing i) (carry_alone us s bs h)
      ∙ gather_filter (λ b. eqb b.position i) (λ b. eqb b.position i) (λ b. marked b.position (alone us s b.tree))
      (λ b. marked_bearing i b.position (alone us s b.tree)) bs
      ∙ sym (carry_alone us s (bearing i bs) h)

-- ---- a list of stages
module _ (us : List Tree) where
  pub carried_none : (ss : List Stage) → GroupFree ss → carried us ss [] ≡ []
  unfolding carried
  carried_none [] g = refl
  carried_none (s ∷ ss) g = ap (carried us ss) (carry_none us s g.0) ∙ carried_none ss g.1

  -- over a joined list, what the parts give, joined
  pub carried_append : (ss : List Stage) → GroupFree ss → (a b : List Borne) → carried us ss (a ++ b) ≡ carried us ss a ++ carried us ss b
  unfolding carried
  carried_append [] g a b = refl
  carried_append (s ∷ ss) g a b = ap (carried us ss) (carry_append us s g.0 a b) ∙ carried_append ss g.1 (carry us s a) (carry us s b)

  -- and over what f gives of each of a list
  -- the trees that come out bearing i are what those that go in bearing i are carried to
  pub carried_bearing : (ss : List Stage) → GroupFree ss → (i : ℕ) (bs : List Borne) → bearing i (carried us ss bs) ≡ carried us ss (bearing i bs)
  unfolding carried
  carried_bearing [] g i bs = refl
  carried_bearing (s ∷ ss) g i bs = carried_bearing ss g.1 i (carry us s bs) ∙ ap (carried us ss) (carry_bearing us s g.0 i bs)

-- ---- what becomes of one tree, if there is one, bears its position
pub carried_sole : (us : List Tree) (ss : List Stage) (n : ℕ) (x : Option Tree) {fs : List Tree}
    → stages us ss (after (map (λ t. t ∷ []) x)) ≡ going fs → carried us ss (marked n (sole x)) ≡ marked n fs
unfolding after sole maybe
carried_sole us ss n none e = let a = stages_going us ss large e in let z : ◌≡◌ {A = ℕ} 0 1 = cc a.1 in absurd (omega arith)
carried_sole us ss n (some t) e = carried_marked us ss n (t ∷ []) e

-- ---- locality
-- in a numbered list one tree at most bears i
none_bears : (i n : ℕ) (ts : List Tree) → i < n → bearing i (numbered n ts) ≡ []
unfolding bearing numbered filter
none_bears i n [] h = refl
none_bears i n (t ∷ ts) h = rw (ne_eqb n i (λ e. omega arith), none_bears i (suc n) ts (omega arith)) refl

one_bears : (i n k : ℕ) (ts : List Tree) → k ≡ n + i → bearing k (numbered n ts) ≡ marked k (sole (get_elem? ts i))
unfolding bearing numbered filter sole maybe marked
one_bears i n k [] e = refl
one_bears zero n k (t ∷ ts) e =
    let z : n ≡ k = omega arith in
    rw (z, eqb_same k, none_bears k (suc k) ts (omega arith)) refl
one_bears (suc i) n k (t ∷ ts) e = rw (ne_eqb n k (λ z. omega arith)) (one_bears i (suc n) k ts (omega arith))

-- what bears the position of the i-th input tree, from 0, is what this tree alone is carried to
pub carried_local : (us : List Tree) (ss : List Stage) → GroupFree ss → (i : ℕ) (ts : List Tree)
    → bearing (suc i) (carried us ss (numbered 1 ts)) ≡ carried us ss (marked (suc i) (sole (get_elem? ts i)))
carried_local us ss g i ts = carried_bearing us ss g (suc i) (numbered 1 ts) ∙ ap (carried us ss) (one_bears i 1 (suc i) ts (omega arith))

-- The theorem: inputs of equal count whose i-th trees are equal (here from 0, positions from 1) give equal lines bearing
-- that position, in equal order, however the other trees differ. The equal counts are document 02's condition; the proof
-- asks for none
module _ (us : List Tree) (ss : List Stage) (ts₁ ts₂ : List Tree) {fs₁ fs₂ : List Tree} (i : ℕ) (free : GroupFree ss)
    (counts : length ts₁ ≡ length ts₂) (same : get_elem? ts₁ i ≡ get_elem? ts₂ i)
    (run₁ : stages us ss (going ts₁) ≡ going fs₁) (run₂ : stages us ss (going ts₂) ≡ going fs₂) where
  pub locality : bearing (suc i) (lines (result_positions us ss ts₁) fs₁) ≡ bearing (suc i) (lines (result_positions us ss ts₂) fs₂)
  locality = rw (result_lines us ss ts₁ run₁, result_lines us ss ts₂ run₂, carried_local us ss free i ts₁, carried_local us ss free i ts₂, same) refl

  pub locality_trees : unmarked (bearing (suc i) (lines (result_positions us ss ts₁) fs₁)) ≡ unmarked (bearing (suc i) (lines (result_positions us ss ts₂) fs₂))
  locality_trees = ap unmarked locality
