-- Laws of feeding one tree: no stage is left, a group is next, or one stage and then the others.
use Rattle.std.specs.Prelude.{◌≡◌, refl, List, [], ◌∷◌, ◌++◌, Bool, true, false, cond, ℕ, suc, ◌+◌, ◌-◌, ◌≤◌, length, Ok, Err}
use Rattle.std.proofs.Common.{sym, ◌∙◌, arith}
use Rattle.std.proofs.Math.Path.{ap, subst}
use Rattle.spec_trees.specs.Lists.{All}
use Rattle.spec_trees.specs.Limits.{tree_max, depth_max, nest_max}
use Rattle.spec_trees.specs.Tree.{Tree}
use Rattle.spec_trees.specs.Bytes.{tree_bytes}
use Rattle.spec_trees.specs.SizeLaws.{length_tree}
use Rattle.spec_trees.specs.Within.{Allowed, AllowedA}
use Rattle.areas.specs.Area.{Is, field_end, IsAt, span, Out, too_large}
use Rattle.areas.specs.declared.span.Span.{Span}
use Rattle.format.specs.Stand.{Holds}
use Rattle.spec_queries.specs.Query.{Path, Route, Criterion, Item, Stage, match, unwind, project, lookup}
use Rattle.spec_queries.specs.Rules.{OkP⁺, OkRoute, OkS, NestedC}
use Rattle.spec_queries.specs.Bytes.{stage_f}
use Rattle.queries.specs.Places.{path_bytes, route_bytes, criterion_bytes, items_bytes, stage_bytes, OnePart, LookupIs, ReadsStage}
use Rattle.queries.specs.PartLaws.{list_parts, list_none}
use Rattle.queries.specs.declared.stage.GroupAt.{GroupAt}
use Rattle.queries.specs.declared.stage.LookupAt.{LookupAt}
use Rattle.queries.specs.declared.stage.StageAt.{StageAt}
use Rattle.spec_stages.specs.Stages.{is_group, going, step, stages}
use Rattle.criteria.specs.Meets.{Evaluable, Meets}
use Rattle.paths.specs.Walk.{given}
use Rattle.paths.specs.ComparedLaws.{one_bytes}
use Rattle.project.specs.Project.{ProjectReady, Projects}
use Rattle.lookup.specs.Lookup.{LookupReady, Looks}
use Rattle.stream.specs.declared.collector.Collector.{Collector}
use Rattle.stream.specs.declared.collector.Collector.TheVariants.{Large}
use Rattle.spec_stages.specs.Stretch.{before}
use Rattle.spec_stages.proofs.StretchLaws.{before_next, before_group, before_none, before_free}
use Rattle.map.specs.Map.{rooms, building, tail_min, stage_min}
use Rattle.stream.specs.Collector.{Collects, Fed, Feeds, CollectReady, Collected}
use Rattle.stream.specs.CollectorLaws.{feeds_none, feeds_large, feeds_lent, feeds_move}
use Rattle.stream.specs.Tails.{tail, lent}
use Rattle.stream.specs.TailLaws.{tail_length, tail_is, ends_beyond}
use Rattle.spec_stages.proofs.StageLaws.{step_match, step_project, project_none, step_lookup, lookup_none, step_allowed}
use Rattle.stream.specs.Feed.{part_at, Planned, Front, Feeding, FeedReady, FeedPost, OkItems, PartReady, PartPost, JoinReady, JoinPost}

-- ---- the tree at the front
pub front_fits : {t : List ℕ} {te : ℕ} {x : Tree} → Front t te x → te ≤ tree_max
front_fits {x = x} h = omega (arith, h.tree_is.ends, length_tree x, h.allowed.small)

pub collect_ready : {n : ℕ} {t : List ℕ} {te : ℕ} {q : List ℕ} {p e : ℕ} {j : List ℕ} {s : Collector} → tail_min ≤ n → Feeding n t te q (span p e) j s → CollectReady t te s
collect_ready b h = record { fits = front_fits h.front; wide = omega (arith, h.room); small = h.small; goes = h.goes }

-- it leaves the last stage
collected_tree : (t v : List ℕ) (te : ℕ) (s r : Collector) (us : List Tree) (x : Tree) → Collected t v te s r → Front t te x → Feeds t s v r (stages us [] (going (x ∷ [])))
unfolding Fed stages given
collected_tree t v te s r us x k f = record { fed = λ xs h. subst (λ (l : List ℕ). Collects v r (xs ++ l)) (one_bytes x) (k.taken (tree_bytes x) xs f.tree_is h) }

-- ---- the first stage and the others
pub record Rest (q : List ℕ) (p m e : ℕ) (j : List ℕ) (ss : List Stage) (us : List Tree) : Type 0 where
  pub first : Stage
  pub others : List Stage
  pub same : ss ≡ first ∷ others
  pub first_ok : OkS first
  pub first_is : Is q p m (stage_bytes first)
  pub planned : Planned q (span m e) j others us
  pub after : p + 3 ≤ m
  pub within : m ≤ e

planned_rest : {q : List ℕ} {p m e : ℕ} {j : List ℕ} {ss : List Stage} {us : List Tree} → (p ≡ e → ⊥) → m ≡ field_end q p → Planned q (span p e) j ss us → Rest q p m e j ss us
planned_rest {ss = ss} n g h =
    let a = list_parts stage_f ss g n h.stages_is in
    let o = subst (λ l. All OkS l) a.same h.stages_ok in
    record {
      first = a.first;
      others = a.rest;
      same = a.same;
      first_ok = o.0;
      first_is = a.first_is;
      planned = record { stages_ok = o.1; stages_is = a.rest_is; joined_ok = h.joined_ok; joined_is = h.joined_is };
      after = a.after;
      within = a.within;
    }

-- no stage is left
pub feed_end : {t v : List ℕ} {te : ℕ} {q : List ℕ} {p e : ℕ} {j : List ℕ} {s r : Collector} → p ≡ e → Collected t v te s r → FeedPost t v te q (span p e) j s r
feed_end {t} {v} {te} {s = s} {r = r} z k ss us x h f =
    subst (λ l. Feeds t s v r (stages us l (going (x ∷ [])))) (sym (ap before (list_none stage_f ss z h.stages_is) ∙ before_none)) (collected_tree t v te s r us x k f)

lookup_plain : {x : Stage} {a b : Route} {c : Path} → x ≡ lookup a b c → is_group x ≡ false
unfolding is_group
lookup_plain z = ap is_group z

lookup_ok : {x : Stage} {a b : Route} {c : Path} → x ≡ lookup a b c → OkS x → OkRoute a × OkRoute b × OkP⁺ c
lookup_ok z o = subst OkS z o

module _ {t : List ℕ} {te : ℕ} {q : List ℕ} {p m e : ℕ} {j : List ℕ} {s : Collector} (n : p ≡ e → ⊥) (g : m ≡ field_end q p) where
  pub feed_places : FeedReady t te q (span p e) j s → (p + 3 ≤ m) × (m ≤ e) × (e ≤ length q)
  feed_places h = let a = planned_rest n g h.planned in (a.after, a.within, h.planned.stages_is.inside)

  pub feed_stage : FeedReady t te q (span p e) j s → Holds stage_bytes q p m
  feed_stage h = let a = planned_rest n g h.planned in record { value = a.first; value_is = a.first_is }

  -- the first is one that k makes
  feeding_rest : FeedReady t te q (span p e) j s → ((x : Stage) → Is q p m (stage_bytes x) → is_group x ≡ false) → Feeding stage_min t te q (span m e) j s
  feeding_rest h k =
      let a = planned_rest n g h.planned in
      let l : length (before h.list) ≡ suc (length (before a.others)) = ap length (ap before a.same ∙ before_next a.first a.others (k a.first a.first_is)) in
      record {
        list = a.others;
        joined = h.joined;
        tree = h.tree;
        planned = a.planned;
        front = h.front;
        room = omega (arith, h.room, l);
        small = h.small;
        goes = h.goes;
      }

  -- after a stage that is no group
  feed_first : {v : List ℕ} {r : Collector} → ((x : Stage) → Is q p m (stage_bytes x) → is_group x ≡ false)
      → ((st : Stage) (ss : List Stage) (us : List Tree) (x : Tree) → OkS st → Is q p m (stage_bytes st) → Planned q (span m e) j ss us → Front t te x → Feeds t s v r (stages us (before ss) (step us st (going (x ∷ [])))))
      → FeedPost t v te q (span p e) j s r
  unfolding stages
  feed_first {v} {r} k f ss us x h i =
      let a = planned_rest n g h in
      subst (λ l. Feeds t s v r (stages us l (going (x ∷ [])))) (sym (ap before a.same ∙ before_next a.first a.others (k a.first a.first_is)))
      (f a.first a.others us x a.first_ok a.first_is a.planned i)

  -- a group is next
  pub feed_group : {v : List ℕ} {r : Collector} → ((x : Stage) → Is q p m (stage_bytes x) → is_group x ≡ true) → Collected t v te s r → FeedPost t v te q (span p e) j s r
  feed_group {v} {r} k c ss us x h f =
      let a = planned_rest n g h in
      subst (λ l. Feeds t s v r (stages us l (going (x ∷ [])))) (sym (ap before a.same ∙ before_group a.first a.others (k a.first a.first_is))) (collected_tree t v te s r us x c f)

  -- a stage of one part
  module _ {A : Type 0} (ok : A → Type 0) (f : A → List ℕ) (k : A → Stage) (plain : (a : A) → is_group (k a) ≡ false) (allowed : (a : A) → OkS (k a) → ok a)
      {c : Span} (read : (x : Stage) → Is q p m (stage_bytes x) → OnePart k f q (span p m) x c) where
    pub part_ready : FeedReady t te q (span p e) j s → PartReady ok f t te q (part_at c (span m e)) j s
    part_ready h =
        let a = planned_rest n g h.planned in
        let b = read a.first a.first_is in
        record { part = record { value = b.part; allowed = allowed b.part (subst OkS b.same a.first_ok); value_is = b.part_is }; next = feeding_rest h (λ x i. ap is_group (read x i).same ∙ plain (read x i).part) }

    pub feed_part : {v : List ℕ} {r : Collector} → PartPost ok f k t v te q (part_at c (span m e)) j s r → FeedPost t v te q (span p e) j s r
    feed_part {v} {r} h = feed_first (λ x i. ap is_group (read x i).same ∙ plain (read x i).part) (λ st ss us x o i pl fr.
        let b = read st i in
        subst (λ y. Feeds t s v r (stages us (before ss) (step us y (going (x ∷ []))))) (sym b.same) (h b.part ss us x (allowed b.part (subst OkS b.same o)) b.part_is pl fr))

  -- a lookup
  module _ {at : LookupAt} (read : (x : Stage) → Is q p m (stage_bytes x) → LookupIs q (span p m) x at) where
    pub join_ready : FeedReady t te q (span p e) j s → JoinReady t te q at (span m e) j s
    join_ready k =
        let a = planned_rest n g k.planned in
        let b = read a.first a.first_is in
        let o = lookup_ok b.same a.first_ok in
        record {
          own = record { value = b.first; allowed = o.0; value_is = b.first_is };
          other = record { value = b.second; allowed = o.1; value_is = b.second_is };
          target = record { value = b.third; allowed = o.2; value_is = b.third_is };
          next = feeding_rest k (λ x y. lookup_plain (read x y).same);
        }

    pub feed_join : {v : List ℕ} {r : Collector} → JoinPost t v te q at (span m e) j s r → FeedPost t v te q (span p e) j s r
    feed_join {v} {r} k = feed_first (λ x y. lookup_plain (read x y).same) (λ st ss us x o y pl fr.
        let b = read st y in
        let a = lookup_ok b.same o in
        subst (λ z. Feeds t s v r (stages us (before ss) (step us z (going (x ∷ []))))) (sym b.same)
        (k b.first b.second b.third ss us x a.0 b.first_is a.1 b.second_is a.2 b.third_is pl fr))

-- which stage stands there, of each kind
module _ {q : List ℕ} {p m : ℕ} {r : StageAt} (read : ReadsStage q (span p m) r) where
  pub group_next : {f : GroupAt} → r ≡ StageAt.Group f → (x : Stage) → Is q p m (stage_bytes x) → is_group x ≡ true
  unfolding is_group
  group_next {f} z x h = ap is_group ((read x h).group_is f z).same

-- the stages of one part
pub plain_match : (c : Criterion) → is_group (match c) ≡ false
unfolding is_group
plain_match c = refl

pub plain_unwind : (p : Path) → is_group (unwind p) ≡ false
unfolding is_group
plain_unwind p = refl

pub plain_project : (is : List Item) → is_group (project is) ≡ false
unfolding is_group
plain_project is = refl

-- ---- the next stage's room
pub next_ready : {t : List ℕ} {te : ℕ} {q : List ℕ} {m e : ℕ} {j : List ℕ} {s : Collector} → Feeding stage_min t te q (span m e) j s → FeedReady t te q (span m e) j s
next_ready h = record {
  list = h.list;
  joined = h.joined;
  tree = h.tree;
  planned = h.planned;
  front = h.front;
  room = omega (arith, h.room);
  small = h.small;
  goes = h.goes;
}

-- ---- match
module _ {t : List ℕ} {te : ℕ} {q : List ℕ} {c : Span} {m e : ℕ} {j : List ℕ} {s : Collector} (h : PartReady (NestedC nest_max) criterion_bytes t te q (part_at c (span m e)) j s) where
  pub match_reads : Evaluable q c t (span 0 te) nest_max
  match_reads = record { criterion = h.part; tree = record { value = h.next.tree; allowed = h.next.front.allowed; value_is = h.next.front.tree_is } }

  module _ {b : Bool} (k : Meets q c t (span 0 te) nest_max b) where
    met : (a : Criterion) (us : List Tree) (x : Tree) → NestedC nest_max a → IsAt q c (criterion_bytes a) → Front t te x → step us (match a) (going (x ∷ [])) ≡ going (cond b (x ∷ []) [])
    met a us x o i f = step_match us a f.allowed ∙ ap (λ d. going (cond d (x ∷ []) [])) (sym (k a x o i f.allowed f.tree_is))

    pub match_kept : {v : List ℕ} {r : Collector} → b ≡ true → FeedPost t v te q (span m e) j s r → PartPost (NestedC nest_max) criterion_bytes match t v te q (part_at c (span m e)) j s r
    match_kept {v} {r} z f a ss us x o i pl fr =
        subst (λ y. Feeds t s v r (stages us (before ss) y)) (sym (met a us x o i fr ∙ ap (λ d. going (cond d (x ∷ []) [])) z)) (f ss us x pl fr)

    pub match_dropped : b ≡ false → PartPost (NestedC nest_max) criterion_bytes match t t te q (part_at c (span m e)) j s s
    match_dropped z a ss us x o i pl fr =
        subst (λ y. Feeds t s t s (stages us (before ss) y)) (sym (met a us x o i fr ∙ ap (λ d. going (cond d (x ∷ []) [])) z)) (feeds_none t s us (before ss) (before_free ss))

-- ---- a tree that stands behind the front, in a lent tail
module _ {n : ℕ} {t : List ℕ} {te : ℕ} {q : List ℕ} {m e : ℕ} {j : List ℕ} {s : Collector} (h : Feeding n t te q (span m e) j s) {v : List ℕ} (l : length v ≡ length t) where
  pub tail_ready : {o : ℕ} {y : Tree} → stage_min ≤ n → Allowed depth_max y → Is v tree_max o (tree_bytes y) → FeedReady (tail tree_max v) (o - tree_max) q (span m e) j s
  tail_ready {o} {y} b a i = record {
    list = h.list;
    joined = h.joined;
    tree = y;
    planned = h.planned;
    front = record { allowed = a; tree_is = tail_is tree_max v i };
    room = omega (arith, h.room, l, tail_length tree_max v);
    small = omega (arith, h.small, l, tail_length tree_max v);
    goes = h.goes;
  }

-- ---- project
module _ {t : List ℕ} {te : ℕ} {q : List ℕ} {c : Span} {m e : ℕ} {j : List ℕ} {s : Collector} (h : PartReady OkItems items_bytes t te q (part_at c (span m e)) j s) where
  pub project_ready : ProjectReady t q c (span 0 te) tree_max
  project_ready = record {
    items = record { value = h.part.value; allowed = h.part.allowed.0; value_is = h.part.value_is };
    tree = record { value = h.next.tree; allowed = h.next.front.allowed; value_is = h.next.front.tree_is };
    below = front_fits h.next.front;
    room = omega (arith, h.next.room);
    small = h.next.small;
  }

  module _ {v : List ℕ} (l : length v ≡ length t) {o : Out} (k : Projects t v q c (span 0 te) tree_max o) where
    pub project_large : o ≡ Err too_large → PartPost OkItems items_bytes project t v te q (part_at c (span m e)) j s Large
    project_large z a ss us x ok i pl fr =
        subst (λ y. Feeds t s v Large (stages us (before ss) y)) (sym (project_none us a x ((k a x ok.0 i fr.allowed fr.tree_is).large z))) (feeds_large t v s us (before ss))

    module _ {d : ℕ} (z : o ≡ Ok d) where
      made : (a : List Item) (us : List Tree) (x : Tree) → OkItems a → IsAt q c (items_bytes a) → AllowedA us → Front t te x
          → (y : Tree) × (step us (project a) (going (x ∷ [])) ≡ going (y ∷ [])) × Allowed depth_max y × Is v tree_max d (tree_bytes y)
      made a us x ok i au fr =
          let b = (k a x ok.0 i fr.allowed fr.tree_is).tree_is d z in
          let y = step_project us a x b.same in
          (b.tree, y, (step_allowed us (project a) x (b.tree ∷ []) au ok fr.allowed y).0, b.stands)

      pub project_end : tree_max ≤ d
      project_end = let n = h.next in
          let b = made h.part.value n.joined n.tree h.part.allowed h.part.value_is n.planned.joined_ok n.front in
          omega (arith, b.3.ends)

      pub project_next : FeedReady (tail tree_max v) (d - tree_max) q (span m e) j s
      project_next = let n = h.next in
          let b = made h.part.value n.joined n.tree h.part.allowed h.part.value_is n.planned.joined_ok n.front in
          tail_ready n l (omega arith) b.2 b.3

      pub project_fed : {y : List ℕ} {r : Collector} → length y ≡ length (tail tree_max v) → FeedPost (tail tree_max v) y (d - tree_max) q (span m e) j s r
          → PartPost OkItems items_bytes project t (lent tree_max v y) te q (part_at c (span m e)) j s r
      project_fed {y} {r} ly f a ss us x ok i pl fr =
          let b = made a us x ok i pl.joined_ok fr in
          let beyond = (k a x ok.0 i fr.allowed fr.tree_is).beyond in
          subst (λ w. Feeds t s (lent tree_max v y) r (stages us (before ss) w)) (sym b.1)
          (feeds_lent tree_max v y (omega (arith, h.next.room, l)) (ends_beyond t v (rooms 1 + building) l (omega (arith, h.next.room)) beyond) ly
          (f ss us b.0 pl record { allowed = b.2; tree_is = tail_is tree_max v b.3 }))

-- ---- lookup: its tree takes the place of the tree at the front
module _ {t : List ℕ} {te : ℕ} {q : List ℕ} {at : LookupAt} {m e : ℕ} {j : List ℕ} {s : Collector} (h : JoinReady t te q at (span m e) j s) where
  pub lookup_ready : LookupReady t q at (span 0 te) j (span 3 (length j))
  lookup_ready = record {
    own = h.own;
    other = h.other;
    target = h.target;
    tree = record { value = h.next.tree; allowed = h.next.front.allowed; value_is = h.next.front.tree_is };
    joined = record { value = h.next.joined; allowed = h.next.planned.joined_ok; value_is = h.next.planned.joined_is };
    room = omega (arith, h.next.room);
    small = h.next.small;
  }

  module _ {v : List ℕ} (l : length v ≡ length t) {o : Out} (k : Looks t v q at (span 0 te) j (span 3 (length j)) o) where
    pub lookup_large : o ≡ Err too_large → JoinPost t v te q at (span m e) j s Large
    lookup_large z own other target ss us x a ai b bi p pi pl fr =
        subst (λ y. Feeds t s v Large (stages us (before ss) y))
        (sym (lookup_none us own other target x ((k own other target x us a ai b bi p pi fr.allowed fr.tree_is pl.joined_ok pl.joined_is).large z)))
        (feeds_large t v s us (before ss))

    module _ {n : ℕ} (z : o ≡ Ok n) where
      looked_at : (own other : Route) (target : Path) (ss : List Stage) (us : List Tree) (x : Tree) → OkRoute own → IsAt q at.own (route_bytes own) → OkRoute other → IsAt q at.theirs (route_bytes other) → OkP⁺ target → IsAt q at.target (path_bytes target)
          → Planned q (span m e) j ss us → Front t te x
          → (y : Tree) × (step us (lookup own other target) (going (x ∷ [])) ≡ going (y ∷ [])) × Front v n y
      looked_at own other target ss us x a ai b bi p pi pl fr =
          let w = (k own other target x us a ai b bi p pi fr.allowed fr.tree_is pl.joined_ok pl.joined_is).tree_is n z in
          let y = step_lookup us own other target x fr.allowed w.same in
          (w.tree, y, record { allowed = (step_allowed us (lookup own other target) x (w.tree ∷ []) pl.joined_ok (a, b, p) fr.allowed y).0; tree_is = w.stands })

      pub lookup_next : FeedReady v n q (span m e) j s
      lookup_next =
          let r = h.next in
          let b = looked_at h.own.value h.other.value h.target.value r.list r.joined r.tree h.own.allowed h.own.value_is h.other.allowed h.other.value_is
          h.target.allowed h.target.value_is r.planned r.front in
          record {
            list = r.list;
            joined = r.joined;
            tree = b.0;
            planned = r.planned;
            front = b.2;
            room = omega (arith, r.room, l);
            small = omega (arith, r.small, l);
            goes = r.goes;
          }

      pub lookup_fed : {y : List ℕ} {r : Collector} → FeedPost v y n q (span m e) j s r → JoinPost t y te q at (span m e) j s r
      lookup_fed {y} {r} feeds own other target ss us x a ai b bi p pi pl fr =
          let w = looked_at own other target ss us x a ai b bi p pi pl fr in
          let beyond = (k own other target x us a ai b bi p pi fr.allowed fr.tree_is pl.joined_ok pl.joined_is).beyond in
          subst (λ y2. Feeds t s y r (stages us (before ss) y2)) (sym w.1)
          (feeds_move (ends_beyond t v building l (omega (arith, h.next.room)) beyond) refl (feeds ss us w.0 pl w.2))
