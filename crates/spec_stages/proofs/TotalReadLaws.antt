-- A total read off the trees of a group, whose destinations are single labels, no two equal: under its destination the
-- trees have the total that the array that entered has under its source.
use Rattle.std.specs.Prelude.{◌≡◌, List, [], ◌∷◌, true}
use Rattle.std.proofs.Common.{sym, ap, ap₂, ◌∙◌}
use Rattle.std.proofs.Math.Option.{some}
use Rattle.std.proofs.lemmas.List.{length-map}
use Rattle.spec_trees.specs.Lists.{All, each}
use Rattle.spec_trees.specs.OptionLaws.{some_equal}
use Rattle.spec_trees.specs.FilterLaws.{each_parts}
use Rattle.spec_trees.specs.Tree.{Tree}
use Rattle.spec_queries.specs.Query.{Pair, group}
use Rattle.spec_queries.specs.Again.{distinct_targets}
use Rattle.spec_stages.specs.Paths.{apply}
use Rattle.spec_stages.specs.Sums.{added}
use Rattle.spec_stages.specs.Totals.{given_integers, sum_of, total, totals}
use Rattle.spec_stages.specs.Group.{Class, key, grouped, aggregate, class_tree}
use Rattle.spec_stages.specs.Flat.{members}
use Rattle.spec_stages.specs.Stages.{performed}
use Rattle.spec_stages.proofs.KeysLaws.{made_told}
use Rattle.spec_stages.proofs.ReadLaws.{made_reads}
use Rattle.spec_stages.proofs.TotalsLaws.{total_added, placed_add}

module _ (ag gs : List Pair) (d : distinct_targets ag gs ≡ true) where
  -- under each destination the tree of a class has what the aggregate takes from the members
  class_reads : (c : Class) (r : Tree) → class_tree ag gs c ≡ some r → All (λ p. apply p.target r ≡ aggregate p (members c)) ag
  unfolding key
  class_reads c r e = (made_reads ag gs (key gs c.0) (members c) d (length-map gs (λ p. apply p.source c.0)) (sym (made_told ag gs c) ∙ e)).0

-- class by class
read_added : (p : Pair) (ag gs : List Pair) → ((c : Class) (r : Tree) → class_tree ag gs c ≡ some r → apply p.target r ≡ aggregate p (members c))
    → (cs : List Class) (rs : List Tree) → each (class_tree ag gs) cs ≡ some rs
    → added totals (λ r. sum_of (given_integers (apply p.target r))) rs ≡ added totals (λ c. sum_of (given_integers (aggregate p (members c)))) cs
unfolding added each
read_added p ag gs k [] rs e = ap (added totals (λ r. sum_of (given_integers (apply p.target r)))) (sym (some_equal [] rs e))
read_added p ag gs k (c ∷ cs) rs e =
    let a = each_parts (class_tree ag gs) c cs e in
    ap (added totals (λ r. sum_of (given_integers (apply p.target r)))) (sym a.all_are)
    ∙ ap₂ totals.plus (ap (λ x. sum_of (given_integers x)) (k c a.first a.first_is)) (read_added p ag gs k cs a.others a.others_are)

-- the theorem, of each aggregate that is a total
pub group_totals : (us : List Tree) (ag gs : List Pair) → distinct_targets ag gs ≡ true → (ts rs : List Tree) → performed us (group ag gs) ts ≡ some rs
    → All (λ p. p.is_total ≡ true → total p.target rs ≡ total p.source ts) ag
unfolding performed
group_totals us ag gs d ts rs e = go ag (λ c r z. class_reads ag gs d c r z)
  where
    go : (ps : List Pair) → ((c : Class) (r : Tree) → class_tree ag gs c ≡ some r → All (λ p. apply p.target r ≡ aggregate p (members c)) ps)
        → All (λ p. p.is_total ≡ true → total p.target rs ≡ total p.source ts) ps
    go [] k = tt
    go (p ∷ ps) k = (
      λ o. total_added p.target rs
          ∙ read_added p ag gs (λ c r z. (k c r z).0) (grouped gs ts) rs e
          ∙ placed_add p o gs ts,
      go ps (λ c r z. (k c r z).1),
    )
