-- Laws of a group: the tree of a class and what becomes of it, one class after another.
use Rattle.std.specs.Prelude.{◌≡◌, List, [], ◌∷◌, ◌++◌, map, Bool, true, false, cond, ◌&&◌, ℕ, ◌+◌, ◌-◌, ◌*◌, ◌≤◌, length, take, drop, Err, Ok as At}
use Rattle.std.proofs.Math.Path.{refl, ap}
use Rattle.std.proofs.Common.{sym, subst, ◌∙◌, append-nil, arith, take_all, take_at, take-take}
use Rattle.std.proofs.Math.Option
use Rattle.std.proofs.Math.Option.{Option, none, some}
use Rattle.areas.specs.declared.span.Span.{Span}
use Rattle.spec_trees.specs.Options.{◌>>=◌}
use Rattle.spec_trees.specs.OptionLaws.{true_T, some_equal}
use Rattle.spec_trees.specs.Lists.{filter, All, gather, each}
use Rattle.spec_trees.specs.ListLaws.{All-append, All-filter, All-map, All-both}
use Rattle.spec_trees.specs.FilterLaws.{gather_append}
use Rattle.spec_trees.specs.Limits.{depth_max, grouping_max, positions_min, work_min}
use Rattle.spec_trees.specs.Tree.{Tree, bare_void}
use Rattle.spec_trees.specs.Size.{fits}
use Rattle.spec_trees.specs.Within.{Ok, Allowed, AllowedA}
use Rattle.areas.specs.Area.{field_end, span, Out, too_large}
use Rattle.areas.specs.AreaLaws.{take_less, is_keep}
use Rattle.areas.specs.Number.{two_at}
use Rattle.spec_queries.specs.Query.{Pair, Stage}
use Rattle.spec_queries.specs.Rules.{OkPair, OkPairs}
use Rattle.queries.specs.Places.{Pairs}
use Rattle.spec_stages.specs.Paths.{apply}
use Rattle.spec_stages.specs.Merge.{merge, build}
use Rattle.spec_stages.specs.Group.{Class, aggregate, aggregated, total_fits, identified, sourced, class_tree}
use Rattle.spec_stages.specs.FitLaws.{ClassFits}
use Rattle.spec_stages.specs.Flat.{members, flat}
use Rattle.spec_stages.specs.Stages.{going, large, after, stages}
use Rattle.spec_stages.specs.Join.{beside}
use Rattle.spec_stages.proofs.JoinLaws.{each_join}
use Rattle.spec_stages.proofs.KeepLaws.{merge_ok, aggregate_ok, apply_ok, labelled, placed_ok, allowed_ok, fits_allowed}
use Rattle.spec_stages.specs.Positions.{Borne, marked, sole, carried}
use Rattle.spec_stages.proofs.LocalLaws.{carried_append, carried_sole}
use Rattle.spec_stages.specs.Stretch.{before}
use Rattle.spec_stages.proofs.StretchLaws.{before_free}
use Rattle.spec_stages.proofs.StageLaws.{build_fits, void_fits}
use Rattle.build.specs.Made.{Made}
use Rattle.group.specs.Class.{ClassReady, MakesClass}
use Rattle.stream.specs.declared.collector.Collector.{Collector}
use Rattle.stream.specs.declared.collector.Collector.TheVariants.{Len, Large}
use Rattle.map.specs.Map.{front_part, lent_part, building}
use Rattle.stream.specs.Collector.{is_large, Feeds}
use Rattle.stream.specs.CollectorLaws.{feeds_large, feeds_lent}
use Rattle.stream.specs.Tails.{tail, lent}
use Rattle.stream.specs.TailLaws.{tail_is, tail_length, lent_front, ends_beyond}
use Rattle.stream.specs.Feed.{Planned, Front, FeedReady, FeedPost}
use Rattle.key_index.specs.Index.{numbers_at}
use Rattle.arrange.specs.Arrange.{arranged}
use Rattle.key_index.specs.declared.front.Reached.{Reached}
use Rattle.stretch.specs.declared.next.StretchAt.{StretchAt}
use Rattle.group_stretch.specs.Group.{GroupPlan, GroupReady, GroupPost, through, borne_through}
use Rattle.group_stretch.specs.Grouping.{ClassStands, ClassFrom, ClassFed}
use Rattle.classes.specs.Read.{Stems, reached, Unread, EndReady, EndIs}
use Rattle.stretch.specs.Carry.{lent_area, Holds, Carries, SinceReady, MarkedSince}
use Rattle.stretch.specs.CarryLaws.{lent_length, holds_open, holds_nothing_lem, carries_holds, carries_none, carries_beside, carries_halt, since_ready, carries_one, back_length, back_lent, back_behind, shows_all}
use Rattle.classes.specs.ReadLaws.{first_allowed, others_allowed, unread_keep, unread_all, ClassParts, class_none, class_parts}

-- ---- the tree of a class is allowed
built_ok : (s : Tree) (ts : List Tree) {y : Tree} → Ok s → All Ok ts → build s ts ≡ some y → Ok y
unfolding build
built_ok s [] {y} o p e = subst Ok (some_equal s y e) o
built_ok s (t ∷ ts) {y} o p e = go (fits t && fits (merge s t)) e (λ k. built_ok (merge s t) ts (merge_ok s t o p.0) p.1 k)
  where
    go : (a : Bool) → cond a (build (merge s t) ts) none ≡ some y → (build (merge s t) ts ≡ some y → Ok y) → Ok y
    go true e k = k e
    go false e k = let z : ◌≡◌ {A = ℕ} 0 1 = cc in absurd (omega arith)

class_allowed : {n : ℕ} (ags gs : List Pair) (c : Class) {y : Tree} → OkPairs n ags → OkPairs grouping_max gs → AllowedA (members c) → ClassFits ags c
    → class_tree ags gs c ≡ some y → Allowed depth_max y
unfolding class_tree aggregated identified
class_allowed ags gs c {y} oa og o f e =
    let parts : List Tree = map (aggregated c) ags ++ map (identified c) (filter (sourced c) gs) in
    let oks = allowed_ok (members c) o in
    let ok : All Ok parts =
    All-append Ok (map (aggregated c) ags) (map (identified c) (filter (sourced c) gs))
    (All-map (λ p. OkPair p × (total_fits p c ≡ true)) Ok (aggregated c)
    (λ p l. placed_ok p.target (labelled p.target l.0.1.0) (aggregate p (members c)) (aggregate_ok p c oks l.1))
    ags (All-both OkPair (λ p. total_fits p c ≡ true) ags oa.0 f))
    (All-map OkPair Ok (identified c)
    (λ p l. placed_ok p.target (labelled p.target l.1.0) (apply p.source c.0) (apply_ok p.source c.0 o.0.ok))
    (filter (sourced c) gs) (All-filter OkPair (sourced c) gs og.0))
    in
    fits_allowed y (built_ok bare_void parts (tt, tt) ok e) (true_T (build_fits bare_void parts void_fits e))

-- ---- no class, one, and some before others
module _ (us : List Tree) (ss : List Stage) (ags gs : List Pair) where
  through_large : (c : Class) → class_tree ags gs c ≡ none → through us ss ags gs (c ∷ []) ≡ stages us (before ss) large
  unfolding through each after ◌>>=◌
  through_large c e = ap (λ o. stages us (before ss) (after (o >>= λ y. Option.map (λ ys. y ∷ ys) (some [])))) e

  through_one : (c : Class) {y : Tree} → class_tree ags gs c ≡ some y → through us ss ags gs (c ∷ []) ≡ stages us (before ss) (going (y ∷ []))
  unfolding through each after ◌>>=◌
  through_one c e = ap (λ o. stages us (before ss) (after (o >>= λ y. Option.map (λ ys. y ∷ ys) (some [])))) e

  through_join : (a b : List Class) → through us ss ags gs (a ++ b) ≡ beside (through us ss ags gs a) (through us ss ags gs b)
  unfolding through
  through_join a b = each_join us (before ss) (class_tree ags gs) a b (before_free ss)

  module _ (p : Tree → ℕ) where
    through_none : (w : List ℕ) (s : Collector) → Carries w s w s (through us ss ags gs []) (borne_through us ss ags gs p [])
    unfolding through borne_through each gather after
    through_none w s = carries_none w s us (before ss) (before_free ss)

    borne_join : (a b : List Class) → borne_through us ss ags gs p (a ++ b) ≡ borne_through us ss ags gs p a ++ borne_through us ss ags gs p b
    unfolding borne_through
    borne_join a b =
        ap (carried us (before ss)) (gather_append (λ c. marked (p c.0) (sole (class_tree ags gs c))) a b)
        ∙ carried_append us (before ss) (before_free ss) (gather (λ c. marked (p c.0) (sole (class_tree ags gs c))) a) (gather (λ c. marked (p c.0) (sole (class_tree ags gs c))) b)

    -- what one class becomes bears its position
    borne_one : (c : Class) (fs : List Tree) → through us ss ags gs (c ∷ []) ≡ going fs → borne_through us ss ags gs p (c ∷ []) ≡ marked (p c.0) fs
    unfolding through borne_through each gather ◌>>=◌
    borne_one c fs e =
        ap (carried us (before ss)) (append-nil (marked (p c.0) (sole (class_tree ags gs c))))
        ∙ carried_sole us (before ss) (p c.0) (class_tree ags gs c) (sym (ap (λ x. stages us (before ss) (after x)) (alone (class_tree ags gs c))) ∙ e)
      where
        alone : (x : Option Tree) → (x >>= λ y. Option.map (λ ys. y ∷ ys) (some [])) ≡ Option.map (λ t. t ∷ []) x
        alone none = refl
        alone (some t) = refl

    module _ {w u v : List ℕ} {s t r : Collector} (a b : List Class) (k : Carries w s u t (through us ss ags gs a) (borne_through us ss ags gs p a)) where
      through_more : is_large t ≡ false → Carries u t v r (through us ss ags gs b) (borne_through us ss ags gs p b)
          → Carries w s v r (through us ss ags gs (a ++ b)) (borne_through us ss ags gs p (a ++ b))
      through_more o h =
          subst (λ x. Carries w s v r x (borne_through us ss ags gs p (a ++ b))) (sym (through_join a b))
          (subst (λ l. Carries w s v r (beside (through us ss ags gs a) (through us ss ags gs b)) l) (sym (borne_join a b))
          (carries_beside (through us ss ags gs a) (through us ss ags gs b) (borne_through us ss ags gs p a) (borne_through us ss ags gs p b) k o h))

    through_stop : (w v : List ℕ) {u : List ℕ} {s t : Collector} (a b : List Class) → length w ≡ work_min → Feeds (lent_area w) s u t (through us ss ags gs a) → is_large t ≡ true
        → Carries w s v Large (through us ss ags gs (a ++ b)) (borne_through us ss ags gs p (a ++ b))
    through_stop w v {s = s} a b l k o =
        subst (λ x. Carries w s v Large x (borne_through us ss ags gs p (a ++ b))) (sym (through_join a b))
        (carries_halt w v (through us ss ags gs a) (through us ss ags gs b) (borne_through us ss ags gs p (a ++ b)) l k o)

-- ---- the tree of a class
module _ {w : List ℕ} {x : Span} {e : ℕ} {q : List ℕ} {at : StretchAt} {j : List ℕ} {s : Collector} (c : ClassFrom w x e q at j s) where
  abbrev pairs₀ : Pairs q at.group c.plan.aggregates c.plan.grouping
  pairs₀ = c.plan.pairs

  pub class_built : ClassReady w q at.group x e front_part
  class_built = record {
    aggregates = record { value = c.plan.aggregates; allowed = pairs₀.aggregates_ok; value_is = pairs₀.aggregates_is };
    grouping = record { value = c.plan.grouping; allowed = pairs₀.grouping_ok; value_is = pairs₀.grouping_is };
    first = record { value = c.one.0; allowed = c.stands.allowed.0; value_is = c.stands.first_is };
    rest = record { value = c.one.1; allowed = c.stands.allowed.1; value_is = c.stands.rest_is };
    fits = c.fits;
    below = c.below;
    room = omega (arith, c.plan.room);
    small = c.plan.small;
  }

  module _ {y : List ℕ} {o : Out} (l : length y ≡ length w) (makes : MakesClass w y q at.group x e front_part o) where
    made : (ags gs : List Pair) (d : Class) → Pairs q at.group ags gs → ClassStands w x e d → ClassFits ags d → Made w y front_part (class_tree ags gs d) o
    made ags gs d hp h f =
        makes ags gs d.0 d.1 hp.aggregates_ok hp.aggregates_is hp.grouping_ok hp.grouping_is h.allowed.0 h.first_is h.allowed.1 h.rest_is f

    made_here : Made w y front_part (class_tree c.plan.aggregates c.plan.grouping c.one) o
    made_here = made c.plan.aggregates c.plan.grouping c.one pairs₀ c.stands c.fits

    pub class_large : o ≡ Err too_large → ClassFed w y x e q at j s Large
    class_large z = record {
      kept = made_here.below;
      feeds = λ ags gs d ss us hp h f hl.
          subst (λ i. Feeds w s y Large i) (sym (through_large us ss ags gs d ((made ags gs d hp h f).large z))) (feeds_large w y s us (before ss));
    }

    module _ {i : ℕ} (z : o ≡ At i) where
      class_front : (ags gs : List Pair) (d : Class) → Pairs q at.group ags gs → AllowedA (members d) → ClassFits ags d
          → (k : Made w y front_part (class_tree ags gs d) o) → Front (tail front_part y) (i - front_part) (k.tree_is i z).tree
      class_front ags gs d hp h f k = record {
        allowed = class_allowed ags gs d hp.aggregates_ok hp.grouping_ok h f (k.tree_is i z).same;
        tree_is = tail_is front_part y (k.tree_is i z).stands;
      }

      pub class_places : (front_part ≤ i) × (front_part ≤ length y)
      class_places = (omega (arith, (made_here.tree_is i z).stands.ends), omega (arith, c.plan.room))

      pub class_feed : FeedReady (tail front_part y) (i - front_part) q at.next j s
      class_feed = record {
        list = c.plan.list;
        joined = c.plan.joined;
        tree = (made_here.tree_is i z).tree;
        planned = c.plan.planned;
        front = class_front c.plan.aggregates c.plan.grouping c.one pairs₀ c.stands.allowed c.fits made_here;
        room = omega (arith, c.plan.room, tail_length front_part y);
        small = omega (arith, c.plan.small, tail_length front_part y);
        goes = c.goes;
      }

      module _ {y2 : List ℕ} {r : Collector} (l2 : length y2 ≡ length (tail front_part y)) (p : FeedPost (tail front_part y) y2 (i - front_part) q at.next j s r) where
        pub class_fed : ClassFed w (lent front_part y y2) x e q at j s r
        class_fed = record {
          kept = lent_front front_part y y2 class_places.1 l2 ∙ made_here.below;
          feeds = λ ags gs d ss us hp h f hl.
              let k = made ags gs d hp h f in
              subst (λ st. Feeds w s (lent front_part y y2) r st) (sym (through_one us ss ags gs d (k.tree_is i z).same))
              (feeds_lent front_part y y2 (omega (arith, c.plan.room)) (ends_beyond w y (front_part + building) l (omega (arith, c.plan.room)) made_here.beyond) l2
              (p ss us (k.tree_is i z).tree hl (class_front ags gs d hp h.allowed f k)));
        }

-- ---- one class after another
-- classes that are allowed, and whose totals fit
abbrev ClassesOk : List Pair → List Class → Type 0
ClassesOk ags cs = AllowedA (flat cs) × All (ClassFits ags) cs

others_ok : (ags : List Pair) (c : Class) (cs : List Class) → ClassesOk ags (c ∷ cs) → ClassesOk ags cs
others_ok ags c cs o = (others_allowed c cs o.0, o.1.1)

-- whatever classes are left go through the stages
abbrev pub GroupFrom : (w : List ℕ) (n : ℕ) (q : List ℕ) (at : StretchAt) (j : List ℕ) (s : Collector) (v : List ℕ) (f : Reached) → Collector → Type 0
GroupFrom w n q at j s v f r = (ags gs : List Pair) (p : Tree → ℕ) (cs : List Class) (ss : List Stage) (us : List Tree) → Pairs q at.group ags gs
    → Stems p cs → ClassesOk ags cs → Unread w f n (arranged p cs) → Planned q at.next j ss us
    → Carries w s v r (through us ss ags gs cs) (borne_through us ss ags gs p cs)

-- what is right for those that are left is right for all
pub record GroupGoing (w₀ : List ℕ) (n : ℕ) (q : List ℕ) (at : StretchAt) (j w : List ℕ) (s : Collector) (f : Reached) : Type 0 where
  pub stem : Tree → ℕ
  pub left : List Class
  pub stems : Stems stem left
  pub allowed : AllowedA (flat left)
  pub fits : (ags gs : List Pair) → Pairs q at.group ags gs → All (ClassFits ags) left
  pub unread : Unread w f n (arranged stem left)
  pub same : length w ≡ length w₀
  pub borne : List Borne
  pub holds : Holds w s borne
  pub right : (v : List ℕ) (r : Collector) → GroupFrom w n q at j s v f r → GroupFrom w₀ n q at j (Len 0) v (reached 0 0) r

module _ {w₀ : List ℕ} {n : ℕ} {q : List ℕ} {at : StretchAt} {j : List ℕ} (c : GroupReady w₀ n q at j) where
  pub group_begin : GroupGoing w₀ n q at j w₀ (Len 0) (reached 0 0)
  group_begin = record {
    stem = c.stem;
    left = c.classes;
    stems = c.stems;
    allowed = c.allowed;
    fits = c.fits;
    unread = unread_all c.stands;
    same = refl;
    borne = [];
    holds = holds_nothing_lem w₀ c.size;
    right = λ v r h. h;
  }

  group_all : {v : List ℕ} {r : Collector} → GroupFrom w₀ n q at j (Len 0) v (reached 0 0) r → GroupPost w₀ v n q at j r
  group_all k ags gs p cs ss us hp o a h hl = shows_all c.size (k ags gs p cs ss us hp o a (unread_all h) hl)

  module _ {w : List ℕ} {s : Collector} {f : Reached} (i : GroupGoing w₀ n q at j w s f) where
    size : length w ≡ work_min
    size = i.same ∙ c.size

    pub group_lent : length (lent_area w) ≡ lent_part
    group_lent = lent_length w size

    pub group_end : f.to ≡ n → GroupPost w₀ w n q at j s
    group_end z = group_all (i.right w s last)
      where
        last : GroupFrom w n q at j s w f s
        last ags gs p cs ss us hp o a h hl =
            subst (λ l. Carries w s w s (through us ss ags gs l) (borne_through us ss ags gs p l)) (sym (class_none p cs z h)) (through_none us ss ags gs p w s)

    module _ (ne : f.to ≡ n → ⊥) {m : ℕ} (g : m ≡ field_end w f.to) where
      parts : (p : Tree → ℕ) (cs : List Class) → Unread w f n (arranged p cs) → ClassParts w f n m p cs
      parts p cs h = class_parts p cs ne g h

      abbrev here : ClassParts w f n m i.stem i.left
      here = parts i.stem i.left i.unread

      pub group_places : (f.to + 6 ≤ m) × (m ≤ n) × (n ≤ length w) × (length w ≡ work_min) × (6 * f.count ≤ f.to) × (numbers_at + 2 * f.count + 2 ≤ length w) × (lent_part ≤ length w)
      group_places = (here.one.after, here.one.within, i.unread.trees_is.inside, size, i.unread.sparse, here.one.number_inside, omega (arith, size))

      stems_here : Stems i.stem (here.first ∷ here.others)
      stems_here = subst (Stems i.stem) here.same i.stems

      -- its position is the number beside its first tree
      pub group_position : {k : ℕ} → k ≡ two_at w (numbers_at + 2 * f.count) → k ≤ positions_min
      group_position z = omega (arith, z, here.one.number, stems_here.0.1)

      pub group_ends : EndReady w (reached m (f.count + 1)) n
      group_ends = record { rest = here.first.1; stem = i.stem; others = here.others; stems = stems_here.1; unread = here.one.rest; small = omega (arith, size) }

      module _ {e : Reached} (k : EndIs w (reached m (f.count + 1)) n e) where
        others_stem : (p : Tree → ℕ) (cs : List Class) (o : Stems p cs) (h : Unread w f n (arranged p cs)) → Stems p (parts p cs h).others
        others_stem p cs o h = (subst (Stems p) (parts p cs h).same o).1

        -- it stands in the part that is lent to the stages
        stands : (p : Tree → ℕ) (cs : List Class) → Stems p cs → AllowedA (flat cs) → (h : Unread w f n (arranged p cs)) → ClassStands (lent_area w) (span f.to m) e.to (parts p cs h).first
        stands p cs o a h =
            let d = parts p cs h in
            let ended = k d.first.1 p d.others (others_stem p cs o h) d.one.rest in
            let b = ended.1.trees_is.ends in
            let again : take lent_part (lent_area w) ≡ take lent_part w = take-take lent_part lent_part w (omega arith) in
            record {
              allowed = first_allowed d.first d.others (subst (λ l. AllowedA (flat l)) d.same a);
              first_is = is_keep d.one.tree_is {d = lent_part} again (omega (arith, d.one.within, c.short));
              rest_is = is_keep ended.0 {d = lent_part} again (omega (arith, c.short));
            }

        behind : (p : Tree → ℕ) (cs : List Class) → Stems p cs → (h : Unread w f n (arranged p cs)) → Unread w e n (arranged p (parts p cs h).others)
        behind p cs o h = let d = parts p cs h in (k d.first.1 p d.others (others_stem p cs o h) d.one.rest).1

        pub group_less : (f.to + 6 ≤ e.to) × (e.to ≤ n)
        group_less =
            let a = (stands i.stem i.left i.stems i.allowed i.unread).rest_is.ends in
            let b = (behind i.stem i.left i.stems i.unread).trees_is.ends in
            (omega (arith, here.one.after), omega arith)

        plan : GroupPlan (length (lent_area w)) q at j
        plan = subst (λ z. GroupPlan z q at j) (sym (lent_length w size)) c.plan

        fits_here : (ags gs : List Pair) → Pairs q at.group ags gs → All (ClassFits ags) (here.first ∷ here.others)
        fits_here ags gs hp = subst (All (ClassFits ags)) here.same (i.fits ags gs hp)

        pub group_class : ClassFrom (lent_area w) (span f.to m) e.to q at j s
        group_class = record {
          plan = plan;
          one = here.first;
          stands = stands i.stem i.left i.stems i.allowed i.unread;
          fits = (fits_here plan.aggregates plan.grouping plan.pairs).0;
          below = omega (arith, group_less, c.short);
          goes = holds_open w s i.borne i.holds;
        }

        module _ {y : List ℕ} {r : Collector} (ly : length y ≡ length (lent_area w)) (t : ClassFed (lent_area w) y (span f.to m) e.to q at j s r) where
          fed : (ags gs : List Pair) (p : Tree → ℕ) (cs : List Class) (ss : List Stage) (us : List Tree) → Pairs q at.group ags gs → Stems p cs → ClassesOk ags cs
              → (h : Unread w f n (arranged p cs)) → Planned q at.next j ss us → Feeds (lent_area w) s y r (through us ss ags gs ((parts p cs h).first ∷ []))
          fed ags gs p cs ss us hp o a h hl =
              t.feeds ags gs (parts p cs h).first ss us hp (stands p cs o a.0 h) (subst (All (ClassFits ags)) (parts p cs h).same a.1).0 hl

          pub group_stop : (u : List ℕ) → is_large r ≡ true → GroupPost w₀ u n q at j Large
          group_stop u z = group_all (i.right u Large stop)
            where
              stop : GroupFrom w n q at j s u f Large
              stop ags gs p cs ss us hp o a h hl =
                  let d = parts p cs h in
                  subst (λ b. Carries w s u Large (through us ss ags gs b) (borne_through us ss ags gs p b)) (sym d.same)
                  (through_stop us ss ags gs p w u (d.first ∷ []) d.others size (fed ags gs p cs ss us hp o a h hl) z)

          -- the whole area, as it comes back
          abbrev u : List ℕ
          u = y ++ drop lent_part w

          size_u : length u ≡ work_min
          size_u = back_length w y size ly

          pub group_back : length u ≡ length w₀
          group_back = size_u ∙ sym c.size

          fed_back : (ags gs : List Pair) (p : Tree → ℕ) (cs : List Class) (ss : List Stage) (us : List Tree) → Pairs q at.group ags gs → Stems p cs → ClassesOk ags cs
              → (h : Unread w f n (arranged p cs)) → Planned q at.next j ss us → Feeds (lent_area w) s (lent_area u) r (through us ss ags gs ((parts p cs h).first ∷ []))
          fed_back ags gs p cs ss us hp o a h hl =
              subst (λ x. Feeds (lent_area w) s x r (through us ss ags gs ((parts p cs h).first ∷ []))) (sym (back_lent w y size ly)) (fed ags gs p cs ss us hp o a h hl)

          ok_here : ClassesOk plan.aggregates i.left
          ok_here = (i.allowed, i.fits plan.aggregates plan.grouping plan.pairs)

          fed_here : Feeds (lent_area w) s (lent_area u) r (through plan.joined plan.list plan.aggregates plan.grouping (here.first ∷ []))
          fed_here = fed_back plan.aggregates plan.grouping i.stem i.left plan.list plan.joined plan.pairs i.stems ok_here i.unread plan.planned

          pub group_since : SinceReady u s r
          group_since = since_ready w u size size_u fed_here i.borne i.holds

          module _ {v : List ℕ} {a : ℕ} (lv : length v ≡ length u) (x : a ≡ two_at w (numbers_at + 2 * f.count)) (b : MarkedSince u v s r a) where
            one : (ags gs : List Pair) (p : Tree → ℕ) (cs : List Class) (ss : List Stage) (us : List Tree) → Pairs q at.group ags gs → Stems p cs → ClassesOk ags cs
                → (h : Unread w f n (arranged p cs)) → Planned q at.next j ss us
                → Carries w s v r (through us ss ags gs ((parts p cs h).first ∷ [])) (borne_through us ss ags gs p ((parts p cs h).first ∷ []))
            one ags gs p cs ss us hp o ok h hl =
                carries_one w u size size_u (fed_back ags gs p cs ss us hp o ok h hl) v a (back_behind w y size ly) b (borne_through us ss ags gs p ((parts p cs h).first ∷ []))
                (λ fs z. borne_one us ss ags gs p (parts p cs h).first fs z ∙ ap (λ l. marked l fs) (sym (x ∙ (parts p cs h).one.number)))

            kept : take front_part v ≡ take front_part w
            kept =
                take_less u v front_part lent_part (omega arith) b.kept ∙ take_less y u front_part lent_part (omega arith) (whole y (ly ∙ lent_length w size))
                ∙ t.kept ∙ take-take front_part lent_part w (omega arith)
              where
                whole : (x : List ℕ) → length x ≡ lent_part → take lent_part (x ++ drop lent_part w) ≡ take lent_part x
                whole x l = take_at x (drop lent_part w) lent_part l ∙ sym (take_all lent_part x (omega arith))

            pub group_again : is_large r ≡ false → GroupGoing w₀ n q at j v r e
            group_again z = record {
              stem = i.stem;
              left = here.others;
              stems = stems_here.1;
              allowed = others_allowed here.first here.others (subst (λ l. AllowedA (flat l)) here.same i.allowed);
              fits = λ ags gs hp. (fits_here ags gs hp).1;
              unread = unread_keep c.short kept (behind i.stem i.left i.stems i.unread);
              same = lv ∙ size_u ∙ sym c.size;
              borne = i.borne ++ borne_through plan.joined plan.list plan.aggregates plan.grouping i.stem (here.first ∷ []);
              holds =
                  carries_holds _ _ i.borne
                  (one plan.aggregates plan.grouping i.stem i.left plan.list plan.joined plan.pairs i.stems ok_here i.unread plan.planned) z i.holds;
              right = λ v2 t2 next. i.right v2 t2 (λ ags gs p cs ss us hp o ok h hl.
                  let d = parts p cs h in
                  subst (λ l. Carries w s v2 t2 (through us ss ags gs l) (borne_through us ss ags gs p l)) (sym d.same)
                  (through_more us ss ags gs p (d.first ∷ []) d.others (one ags gs p cs ss us hp o ok h hl) z
                  (next ags gs p d.others ss us hp (others_stem p cs o h) (others_ok ags d.first d.others (subst (ClassesOk ags) d.same ok))
                  (unread_keep c.short kept (behind p cs o h)) hl)));
            }
