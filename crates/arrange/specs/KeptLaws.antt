-- Laws of an area that stays from a place on: what stands there stands there still, and so does the index.
use Rattle.std.specs.Prelude.{◌≡◌, List, [], ◌∷◌, ◌++◌, reverse, ℕ, ◌+◌, ◌≤◌, drop}
use Rattle.std.proofs.Common.{◌∙◌, arith}
use Rattle.spec_trees.specs.Lists.{All}
use Rattle.spec_trees.specs.ListLaws.{All-imply, All-reverse}
use Rattle.spec_trees.specs.Tree.{Tree}
use Rattle.areas.specs.Number.{two_at}
use Rattle.spec_queries.specs.Query.{Pair}
use Rattle.spec_stages.specs.Group.{alike}
use Rattle.key_index.specs.Links.{Spot, spots, same_slot}
use Rattle.key_index.specs.LinksLaws.{links_kept}
use Rattle.key_index.specs.Index.{base, back_at, next_at, mark_at, head_at, count_at, size_of, standing, slot, Marks, Index}
use Rattle.arrange.specs.Arrange.{index_at}
use Rattle.areas.specs.NumberLaws.{two_above}

spots_above : (a : ℕ) (ts : List Tree) → base ≤ a → All (λ s. base ≤ s.0) (spots size_of a ts)
unfolding spots
spots_above a [] l = tt
spots_above a (t ∷ ts) l = (l, spots_above (a + size_of t) ts (omega arith))

module _ (w v : List ℕ) (k : drop index_at v ≡ drop index_at w) where
  marks_kept : (gs : List Pair) (seen : List Tree) (ss : List (Spot Tree)) → All (λ s. base ≤ s.0) ss → Marks gs (λ a. two_at w (mark_at a)) seen ss → Marks gs (λ a. two_at v (mark_at a)) seen ss
  marks_kept gs seen [] l m = tt
  marks_kept gs seen (s ∷ ss) l m =
      let b = l.0 in
      (two_above w v index_at k (mark_at s.0) (omega arith) ∙ m.0, marks_kept gs (seen ++ (s.1 ∷ [])) ss l.1 m.1)

  pub index_kept : (gs : List Pair) (ts : List Tree) → Index w gs ts → Index v gs ts
  index_kept gs ts i =
      let above = spots_above base ts (omega arith) in
      let backs : All (λ s. two_at v (back_at s.0) ≡ two_at w (back_at s.0)) (standing ts)
      = All-imply (λ s. base ≤ s.0) (λ s. two_at v (back_at s.0) ≡ two_at w (back_at s.0)) (λ s l. two_above w v index_at k (back_at s.0) (omega arith)) (standing ts) above in
      record {
        links = record {
          nexts = links_kept (alike gs) (λ a. two_at w (next_at a)) (λ a. two_at v (next_at a)) (standing ts)
              (All-imply (λ s. base ≤ s.0) (λ s. two_at v (next_at s.0) ≡ two_at w (next_at s.0)) (λ s l. two_above w v index_at k (next_at s.0) (omega arith)) (standing ts) above)
              i.links.nexts;
          backs = links_kept (same_slot (slot gs)) (λ a. two_at w (back_at a)) (λ a. two_at v (back_at a)) (reverse (standing ts))
              (All-reverse (λ s. two_at v (back_at s.0) ≡ two_at w (back_at s.0)) (standing ts) backs) i.links.backs;
          tops = λ h l. two_above w v index_at k (head_at h) (omega arith) ∙ i.links.tops h l;
        };
        marks = marks_kept gs [] (standing ts) above i.marks;
        counts = λ m l. two_above w v index_at k (count_at m) (omega arith) ∙ i.counts m l;
      }
