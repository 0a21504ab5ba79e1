-- Laws of entering all trees: none at first, one after another.
use Rattle.std.specs.Prelude.{◌≡◌, refl, ℕ, ◌+◌, ◌*◌, ◌-◌, ◌≤◌, ◌<◌, length, take, drop, get_or, replicate}
use Rattle.std.proofs.Common.{sym, ap₂, subst, ◌∙◌, arith, length-drop, get_or-append-add, length-take-le, drop_at, drop-drop}
use Rattle.std.proofs.Math.Path.{ap}
use mathlib.Core.List.{List, [], ◌∷◌, ◌++◌, append-nil, append_assoc}
use Rattle.std.proofs.lemmas.List.{get_or-replicate, length-replicate}
use Rattle.std.proofs.Math.ListN.{get_or-append}
use Rattle.std.proofs.Math.Seq.{drop-append-add}
use Rattle.spec_trees.specs.Limits.{depth_max, work_min}
use Rattle.spec_trees.specs.Lists.{filter}
use Rattle.spec_trees.specs.ListLaws.{All-left, All-right}
use Rattle.spec_trees.specs.Tree.{Tree}
use Rattle.spec_trees.specs.Bytes.{bytes, tree_fs}
use Rattle.spec_trees.specs.Within.{Allowed, AllowedA}
use Rattle.areas.specs.Area.{Is, field_end, span}
use Rattle.areas.specs.declared.span.Span.{Span}
use Rattle.areas.specs.AreaLaws.{is_beyond}
use Rattle.areas.specs.Number.{two_at}
use Rattle.queries.specs.Places.{array_trees}
use Rattle.queries.specs.TreesLaws.{ArrayParts, array_parts, array_none, array_behind}
use Rattle.spec_queries.specs.Query.{Pair}
use Rattle.paths.specs.ComparedLaws.{is_none}
use Rattle.key_index.specs.Links.{spots, passing, offset, first_of}
use Rattle.spec_stages.specs.Classes.{scan}
use Rattle.spec_stages.specs.Positions.{unmarked}
use Rattle.key_index.specs.Index.{base, heads_at, slots, Index, Entering, Collected}
use Rattle.key_index.specs.Entering.{Enters, Cleared}
use Rattle.positions.specs.BearingLaws.{bears_beyond}

-- ---- the heads and the counts are cleared: a part of the area came back as zeros
abbrev index_top : ℕ
index_top = base - heads_at

module _ (w y : List ℕ) (l : length w ≡ work_min) (z : y ≡ replicate (length (take index_top (drop heads_at w))) 0) where
  abbrev whole : List ℕ
  whole = take heads_at w ++ (y ++ drop index_top (drop heads_at w))

  front : length (take heads_at w) ≡ heads_at
  front = length-take-le heads_at w (omega arith)

  zeros : length y ≡ index_top
  zeros = ap length z ∙ length-replicate (length (take index_top (drop heads_at w))) 0 ∙ length-take-le index_top (drop heads_at w) (omega (arith, length-drop heads_at w))

  zero_byte : (i : ℕ) → i < index_top → get_or whole (heads_at + i) 0 ≡ 0
  zero_byte i b =
      ap (λ n. get_or whole (n + i) 0) (sym front) ∙ get_or-append-add (take heads_at w) (y ++ drop index_top (drop heads_at w)) i 0
      ∙ get_or-append y (drop index_top (drop heads_at w)) 0 i (omega (arith, zeros))
      ∙ ap (λ s. get_or s i 0) z ∙ get_or-replicate (length (take index_top (drop heads_at w))) i 0 0 (omega (arith, length-take-le index_top (drop heads_at w) (omega (arith, length-drop heads_at w))))

  zero_two : (i : ℕ) → i + 1 < index_top → two_at whole (heads_at + i) ≡ 0
  zero_two i b = ap₂ (λ i j. i * 256 + j) (zero_byte i (omega arith)) (ap (λ j. get_or whole j 0) (omega arith) ∙ zero_byte (i + 1) (omega arith))

  pub heads_cleared : Cleared w whole
  heads_cleared = record {
    blank = λ h b. zero_two (2 * h) (omega arith);
    uncounted = λ m b. ap (two_at whole) (omega arith) ∙ zero_two (2 * slots + 2 * m) (omega arith);
    beyond =
        ap (λ n. drop (n + index_top) whole) (sym front) ∙ drop-append-add (take heads_at w) (y ++ drop index_top (drop heads_at w)) index_top
        ∙ drop_at y (drop index_top (drop heads_at w)) index_top zeros ∙ drop-drop index_top heads_at w;
  }

-- ---- no tree is entered
index_none : {w₀ w : List ℕ} (gs : List Pair) → Cleared w₀ w → Index w gs []
unfolding spots first_of passing filter offset scan
index_none gs c = record { links = record { nexts = tt; backs = tt; tops = c.blank }; marks = tt; counts = c.uncounted }

-- ---- some trees are entered, and some are left
pub record EnteringAll (w₀ q : List ℕ) (keys_at : Span) (n : ℕ) (c : Collected w₀ q keys_at n) (w : List ℕ) (at : ℕ) : Type 0 where
  pub seen : List Tree
  pub left : List Tree
  pub both : seen ++ left ≡ unmarked c.borne
  pub seen_is : Is w base at (array_trees seen)
  pub left_is : Is w at (base + n) (array_trees left)
  pub index : Index w c.grouping seen
  pub size : length w ≡ work_min
  pub beyond : drop base w ≡ drop base w₀

no_trees : {w : List ℕ} {p : ℕ} → p ≤ length w → Is w p p (array_trees [])
unfolding bytes tree_fs
no_trees l = is_none l

-- the trees stand where they stood
abbrev pub collected_kept : {w v q : List ℕ} {keys_at : Span} {n : ℕ} → drop base v ≡ drop base w → length v ≡ length w → Collected w q keys_at n → Collected v q keys_at n
collected_kept k l c = record {
  size = l ∙ c.size;
  short = c.short;
  grouping = c.grouping;
  few = c.few;
  grouping_is = c.grouping_is;
  borne = c.borne;
  trees_ok_lem = c.trees_ok_lem;
  trees_is = is_beyond base c.trees_is k l (omega arith);
  bears = bears_beyond _ _ base (omega arith) k 0 c.borne c.bears;
}

module _ {w₀ q : List ℕ} {keys_at : Span} {n : ℕ} (c : Collected w₀ q keys_at n) where
  pub all_begin : {w : List ℕ} → Cleared w w₀ → EnteringAll w₀ q keys_at n c w₀ base
  all_begin b = record {
    seen = [];
    left = unmarked c.borne;
    both = refl;
    seen_is = no_trees (omega (arith, c.size));
    left_is = c.trees_is;
    index = index_none c.grouping b;
    size = c.size;
    beyond = refl;
  }

  module _ {w : List ℕ} {at : ℕ} (e : EnteringAll w₀ q keys_at n c w at) where
    pub all_end : at ≡ base + n → Index w c.grouping (unmarked c.borne)
    all_end z = subst (Index w c.grouping) (sym (append-nil e.seen) ∙ ap (λ l. e.seen ++ l) (sym (array_none e.left z e.left_is)) ∙ e.both) e.index

    module _ {m : ℕ} (ne : at ≡ base + n → ⊥) (z : m ≡ field_end w at) where
      abbrev parts : ArrayParts w at m (base + n) e.left
      parts = array_parts e.left z ne e.left_is

      allowed : AllowedA (e.seen ++ (parts.first ∷ parts.rest))
      allowed = subst AllowedA (sym e.both ∙ ap (λ l. e.seen ++ l) parts.same) c.trees_ok_lem

      pub all_places : (at + 6 ≤ m) × (m ≤ base + n) × (base + n ≤ length w)
      all_places = (parts.after, parts.within, e.left_is.inside)

      pub all_one : Entering w q keys_at (span at m)
      all_one = record {
        size = e.size;
        high = omega (arith, parts.within, c.short);
        grouping = c.grouping;
        few = c.few;
        grouping_is = c.grouping_is;
        seen = e.seen;
        seen_ok = All-left (Allowed depth_max) e.seen (parts.first ∷ parts.rest) allowed;
        seen_is = e.seen_is;
        tree = parts.first;
        tree_ok_lem = (All-right (Allowed depth_max) e.seen (parts.first ∷ parts.rest) allowed).0;
        tree_is = parts.first_is;
        index = e.index;
      }

      pub all_next : {v : List ℕ} → length v ≡ length w → Enters w v q keys_at (span at m) → EnteringAll w₀ q keys_at n c v m
      unfolding all_one
      all_next {v} l k =
          let a = parts.after in
          let b = e.seen_is.ends in
          record {
            seen = e.seen ++ (parts.first ∷ []);
            left = parts.rest;
            both = append_assoc e.seen (parts.first ∷ []) parts.rest ∙ ap (λ l. e.seen ++ l) (sym parts.same) ∙ e.both;
            seen_is = is_beyond base (array_behind e.seen parts.first e.seen_is parts.first_is) k.beyond l (omega arith);
            left_is = is_beyond base parts.rest_is k.beyond l (omega arith);
            index = k.index all_one;
            size = l ∙ e.size;
            beyond = k.beyond ∙ e.beyond;
          }
