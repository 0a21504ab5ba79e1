-- Laws of the loops over the outcomes of an unwind.
use Rattle.std.specs.Prelude.{◌≡◌, refl, List, [], ◌∷◌, map, true, false, ℕ, ◌+◌, ◌-◌, ◌≤◌, ◌<◌, length, take, drop, get_or, Some, None, Ok, Err}
use Rattle.std.proofs.Common.{sym, ap, ◌∙◌, subst, arith}
use Rattle.std.proofs.Math.Option.{some}
use Rattle.spec_trees.specs.Limits.{tree_max, depth_max, label_max}
use Rattle.spec_trees.specs.ListLaws.{All-drop}
use Rattle.spec_trees.specs.Tree.{Tree, Trees, ◌▹◌, list, labels, find}
use Rattle.spec_trees.specs.Bytes.{tree_bytes}
use Rattle.spec_trees.specs.Within.{Allowed, AllowedA}
use Rattle.areas.specs.Area.{Is, Wrote, field_end, IsAt, span, Out, too_large}
use Rattle.areas.specs.declared.span.Span.{Span}
use Rattle.areas.specs.AreaLaws.{is_keep, wrote_keep, written, told}
use Rattle.spec_trees.specs.SizeLaws.{length_tree}
use Rattle.format.specs.Stand.{trees_bytes, Holds, Finds}
use Rattle.format.specs.StandLaws.{tree_parts, trees_parts, trees_none, trees_places, holds_first}
use Rattle.spec_queries.specs.Query.{Path, Stage, unwind}
use Rattle.spec_queries.specs.Rules.{OkP}
use Rattle.spec_queries.specs.PathLaws.{path_label}
use Rattle.spec_trees.specs.ByteLaws.{label_small}
use Rattle.queries.specs.Places.{path_bytes}
use Rattle.queries.specs.Steps.{step_count, step_at}
use Rattle.queries.specs.StepLaws.{steps_are, step_is}
use Rattle.spec_stages.specs.Unwind.{holding, unwound}
use Rattle.spec_stages.specs.Stages.{going, stages}
use Rattle.place.specs.Writers.{Along, WriterReady}
use Rattle.unwind.specs.Outcomes.{sound_bytes, Counts, Has, PutsOutcome, ElementReady, PutsElement}
use Rattle.unwind.specs.OutcomeLaws.{entry_of_lem, entry_places, entry_kept, outcome_fits}
use Rattle.spec_stages.proofs.UnwoundLaws.{unwound_allowed, unwound_none, unwound_one, left_next, left_none, elements_next}
use Rattle.stream.specs.declared.collector.Collector.{Collector}
use Rattle.stream.specs.declared.collector.Collector.TheVariants.{Large}
use Rattle.spec_stages.specs.Stretch.{before}
use Rattle.spec_stages.proofs.StretchLaws.{before_free}
use Rattle.map.specs.Map.{rooms, stage_min}
use Rattle.stream.specs.Collector.{is_large, ends, Feeds}
use Rattle.stream.specs.CollectorLaws.{feeds_none, feeds_lent, feeds_more, feeds_stop, feeds_open}
use Rattle.stream.specs.Tails.{tail, lent}
use Rattle.stream.specs.TailLaws.{tail_length, tail_is, lent_length, lent_front, ends_beyond}
use Rattle.spec_stages.proofs.StageLaws.{step_unwind, unwound_alone}
use Rattle.stream.specs.Feed.{part_at, Planned, Front, FeedReady, FeedPost, PartReady, PartPost}
use Rattle.stream.specs.FeedLaws.{front_fits}
use Rattle.stream.specs.Unwinding.{LeftRule, Unwinding, Parted, LeftFrom, LeftUnder, UnwoundEntry}
use Rattle.format.specs.Labels.{Found}

-- ---- any loop over what is left
module _ {t₀ : List ℕ} {te : ℕ} {q : List ℕ} {c : Span} {m e : ℕ} {j : List ℕ} {s₀ : Collector} (h : PartReady OkP path_bytes t₀ te q (part_at c (span m e)) j s₀) where
  pub unwinding_begin : (Left : LeftRule) → ((a : Path) (x : Tree) → OkP a → IsAt q c (path_bytes a) → Front t₀ te x → Left a x (unwound a x)) → Unwinding Left t₀ te q (part_at c (span m e)) j s₀ t₀ s₀
  unwinding_begin Left f = record {
    same = refl;
    kept = refl;
    goes = h.next.goes;
    rest = λ a ss us x o i pl fr. record { left = unwound a x; left_is = f a x o i fr; carry = λ v r k. k };
  }

  -- nothing is left to feed
  pub unwound_nothing : ((a : Path) (x : Tree) → OkP a → IsAt q c (path_bytes a) → Front t₀ te x → unwound a x ≡ []) → PartPost OkP path_bytes unwind t₀ t₀ te q (part_at c (span m e)) j s₀ s₀
  unwound_nothing f a ss us x o i pl fr =
      subst (λ y. Feeds t₀ s₀ t₀ s₀ (stages us (before ss) y)) (sym (step_unwind us a fr.allowed ∙ ap going (f a x o i fr))) (feeds_none t₀ s₀ us (before ss) (before_free ss))

  module _ {Left : LeftRule} {t : List ℕ} {s : Collector} (g : Unwinding Left t₀ te q (part_at c (span m e)) j s₀ t s) where
    pub wide : stage_min ≤ length t
    wide = omega (arith, h.next.room, g.same)

    pub front_now : {xs : List ℕ} {b : ℕ} → b ≤ tree_max → {a : ℕ} → Is t₀ a b xs → Is t a b xs
    front_now l i = is_keep i g.kept l

    pub front_then : {xs : List ℕ} {b : ℕ} → b ≤ tree_max → {a : ℕ} → Is t a b xs → Is t₀ a b xs
    front_then l i = is_keep i (sym g.kept) l

    pub unwinding_end : ((a : Path) (x : Tree) (ys : List Tree) → OkP a → IsAt q c (path_bytes a) → Front t₀ te x → Left a x ys → ys ≡ []) → PartPost OkP path_bytes unwind t₀ t te q (part_at c (span m e)) j s₀ s
    unwinding_end f a ss us x o i pl fr =
        let k = g.rest a ss us x o i pl fr in
        subst (λ y. Feeds t₀ s₀ t s (stages us (before ss) y)) (sym (step_unwind us a fr.allowed))
        (k.carry t s (subst (λ y. Feeds t s t s (stages us (before ss) (going y))) (sym (f a x k.left o i fr k.left_is)) (feeds_none t s us (before ss) (before_free ss))))

    module _ {After : LeftRule} {v : List ℕ} {o : ℕ} (l : length v ≡ length t) (kept : take tree_max v ≡ take tree_max t) (en : ends v ≡ ends t)
        (part : (a : Path) (x : Tree) (ys : List Tree) → OkP a → IsAt q c (path_bytes a) → Front t₀ te x → Left a x ys → Parted After v o a x ys) where
      pub outcome_end : tree_max ≤ o
      outcome_end =
          let n = h.next in
          let k = g.rest h.part.value n.list n.joined n.tree h.part.allowed h.part.value_is n.planned n.front in
          let b = part h.part.value n.tree k.left h.part.allowed h.part.value_is n.front k.left_is in
          omega (arith, b.first_is.ends)

      pub outcome_ready : FeedReady (tail tree_max v) (o - tree_max) q (span m e) j s
      outcome_ready =
          let n = h.next in
          let k = g.rest h.part.value n.list n.joined n.tree h.part.allowed h.part.value_is n.planned n.front in
          let b = part h.part.value n.tree k.left h.part.allowed h.part.value_is n.front k.left_is in
          record {
            list = n.list;
            joined = n.joined;
            tree = b.first;
            planned = n.planned;
            front = record { allowed = b.allowed; tree_is = tail_is tree_max v b.first_is };
            room = omega (arith, n.room, l, g.same, tail_length tree_max v);
            small = omega (arith, n.small, l, g.same, tail_length tree_max v);
            goes = g.goes;
          }

      module _ {y : List ℕ} {r : Collector} (ly : length y ≡ length (tail tree_max v)) (p : FeedPost (tail tree_max v) y (o - tree_max) q (span m e) j s r) where
        fed_one : (a : Path) (ss : List Stage) (us : List Tree) (x : Tree) {ys : List Tree} → Planned q (span m e) j ss us → (b : Parted After v o a x ys)
            → Feeds t s (lent tree_max v y) r (stages us (before ss) (going (b.first ∷ [])))
        fed_one a ss us x pl b =
            feeds_lent tree_max v y (omega (arith, wide, l)) en ly (p ss us b.first pl record { allowed = b.allowed; tree_is = tail_is tree_max v b.first_is })

        -- a tree was too large
        pub unwinding_stop : (z : List ℕ) → is_large r ≡ true → PartPost OkP path_bytes unwind t₀ z te q (part_at c (span m e)) j s₀ Large
        unwinding_stop z w a ss us x ok i pl fr =
            let k = g.rest a ss us x ok i pl fr in
            let b = part a x k.left ok i fr k.left_is in
            subst (λ y2. Feeds t₀ s₀ z Large (stages us (before ss) y2)) (sym (step_unwind us a fr.allowed))
            (k.carry z Large (subst (λ y2. Feeds t s z Large (stages us (before ss) (going y2))) (sym b.same)
            (feeds_stop z us (before ss) (before_free ss) (b.first ∷ []) b.others (fed_one a ss us x pl b) w)))

        pub unwinding_next : is_large r ≡ false → Unwinding After t₀ te q (part_at c (span m e)) j s₀ (lent tree_max v y) r
        unwinding_next w = record {
          same = lent_length tree_max v y (omega (arith, wide, l)) ly ∙ l ∙ g.same;
          kept = lent_front tree_max v y (omega (arith, wide, l)) ly ∙ kept ∙ g.kept;
          goes =
              let n = h.next in
              let k = g.rest h.part.value n.list n.joined n.tree h.part.allowed h.part.value_is n.planned n.front in
              let b = part h.part.value n.tree k.left h.part.allowed h.part.value_is n.front k.left_is in
              feeds_open (omega (arith, wide)) g.goes (fed_one h.part.value n.list n.joined n.tree n.planned b) w;
          rest = λ a ss us x ok i pl fr.
              let k = g.rest a ss us x ok i pl fr in
              let b = part a x k.left ok i fr k.left_is in
              record {
                left = b.others;
                left_is = b.others_are;
                carry = λ z r2 f. k.carry z r2 (subst (λ y2. Feeds t s z r2 (stages us (before ss) (going y2))) (sym b.same)
                    (feeds_more z us (before ss) (before_free ss) (b.first ∷ []) b.others (fed_one a ss us x pl b) w f));
              };
        }

-- ---- what was written behind the front
module _ {t v : List ℕ} {xs : List ℕ} {r : Out} (l : length v ≡ length t) (b : stage_min ≤ length t) (k : Wrote t v tree_max (rooms 2) xs r) where
  pub written_kept : take tree_max v ≡ take tree_max t
  written_kept = wrote_keep k (omega arith)

  pub written_is : {o : ℕ} → r ≡ Ok o → Is v tree_max o xs
  written_is z = written k (omega arith) z

  pub written_ends : ends v ≡ ends t
  written_ends = told r
      (λ o z. ends_beyond t v o l (omega (arith, (k.fits o z).room)) (k.fits o z).beyond)
      (λ z. ends_beyond t v (rooms 2) l (omega arith) (k.large z).beyond)

-- ---- outcome by outcome
pub path_along : {t : List ℕ} {te : ℕ} {q : List ℕ} {c : Span} {m e : ℕ} {j : List ℕ} {s : Collector} → PartReady OkP path_bytes t te q (part_at c (span m e)) j s → Along q c
path_along h = record { path = h.part.value; path_is = h.part.value_is; allowed = h.part.allowed }

pub front_tree : {t : List ℕ} {te : ℕ} {q : List ℕ} {c : Span} {m e : ℕ} {j : List ℕ} {s : Collector} → PartReady OkP path_bytes t te q (part_at c (span m e)) j s → Holds tree_bytes t 0 te
front_tree h = record { value = h.next.tree; value_is = h.next.front.tree_is }

module _ {t₀ : List ℕ} {te : ℕ} {q : List ℕ} {c : Span} {m e : ℕ} {j : List ℕ} {s₀ : Collector} (h : PartReady OkP path_bytes t₀ te q (part_at c (span m e)) j s₀) where
  pub outcomes_begin : Unwinding (LeftFrom 0) t₀ te q (part_at c (span m e)) j s₀ t₀ s₀
  outcomes_begin = unwinding_begin h (LeftFrom 0) (λ a x o i fr. refl)

  module _ {n i : ℕ} {t : List ℕ} {s : Collector} (counts : Counts q c 0 t₀ (span 0 te) n) (g : Unwinding (LeftFrom i) t₀ te q (part_at c (span m e)) j s₀ t s) where
    pub outcomes_end : n ≤ i → PartPost OkP path_bytes unwind t₀ t te q (part_at c (span m e)) j s₀ s
    outcomes_end b = unwinding_end h g (λ a x ys o k fr z. z ∙ left_none (unwound a x) i (omega (arith, counts a x k fr.tree_is)))

    pub outcome_writes : i < n → WriterReady sound_bytes t q c 0 (span 0 te) (span tree_max (rooms 2)) × (tree_max + (te - 0) ≤ rooms 2) × Has t q c (span 0 te) i
    outcome_writes b =
        let f = front_fits h.next.front in
        let w : stage_min ≤ length t = omega (arith, h.next.room, g.same) in (
          record {
            along = path_along h;
            step = omega arith;
            source = record { value = record { tree = h.next.tree; ok = h.next.front.allowed.ok }; value_is = front_now h g f h.next.front.tree_is };
            below = f;
            room = omega arith;
            inside = omega (arith, w);
            small = omega (arith, h.next.small, g.same);
          },
          omega (arith, f),
          λ a x k o y. omega (arith, counts a x k (front_then h g f y)),
        )

    module _ {v : List ℕ} {r : Out} (b : i < n) (l : length v ≡ length t) (k : PutsOutcome t v q c (span 0 te) i (span tree_max (rooms 2)) r) where
      wrote : (a : Path) (x : Tree) → IsAt q c (path_bytes a) → Front t₀ te x → Wrote t v tree_max (rooms 2) (tree_bytes (get_or (unwound a x) i x)) r
      wrote a x z fr = k a x z fr.allowed.ok (front_now h g (front_fits fr) fr.tree_is)

      pub outcome_never : r ≡ Err too_large → ⊥
      outcome_never z =
          let a = h.part.value in
          let x = h.next.tree in
          let fr = h.next.front in
          let y = outcome_fits a x i fr.allowed (omega (arith, counts a x h.part.value_is fr.tree_is)) (omega arith) (wrote a x h.part.value_is fr) in
          let w : ◌≡◌ {A = ℕ} 0 1 = cc in
          omega arith

      pub outcome_kept : take tree_max v ≡ take tree_max t
      outcome_kept = written_kept l (wide h g) (wrote h.part.value h.next.tree h.part.value_is h.next.front)

      pub outcome_ends : ends v ≡ ends t
      outcome_ends = written_ends l (wide h g) (wrote h.part.value h.next.tree h.part.value_is h.next.front)

      pub outcome_parts : {o : ℕ} → r ≡ Ok o → (a : Path) (x : Tree) (ys : List Tree) → OkP a → IsAt q c (path_bytes a) → Front t₀ te x → LeftFrom i a x ys → Parted (LeftFrom (i + 1)) v o a x ys
      outcome_parts z a x ys ok y fr e =
          let n = left_next (unwound a x) i x (omega (arith, counts a x y fr.tree_is)) in
          record {
            first = get_or (unwound a x) i x;
            others = drop (i + 1) (unwound a x);
            same = e ∙ n;
            allowed = (subst AllowedA n (All-drop (Allowed depth_max) i (unwound a x) (unwound_allowed a x ok fr.allowed))).0;
            first_is = written_is l (wide h g) (wrote a x y fr) z;
            others_are = refl;
          }

-- ---- element by element: the path has one label, k
one_step_small : {k : ℕ} → OkP (k ∷ []) → k ≤ label_max
one_step_small {k} o = label_small k (path_label (k ∷ []) 0 (omega arith) o)

module _ {t : List ℕ} {te : ℕ} {q : List ℕ} {c : Span} {m e : ℕ} {j : List ℕ} {s : Collector} (h : PartReady OkP path_bytes t te q (part_at c (span m e)) j s) {k : ℕ} (one : step_count q c ≡ 1) (label : k ≡ step_at q c 0) where
  pub one_label : (a : Path) → IsAt q c (path_bytes a) → a ≡ k ∷ []
  one_label a i = go a i (steps_are a i)
    where
      go : (a : Path) → IsAt q c (path_bytes a) → step_count q c ≡ length a → a ≡ k ∷ []
      go [] i z = absurd (omega (arith, z, one))
      go (x ∷ []) i z = ap (λ y. y ∷ []) (sym (label ∙ step_is (x ∷ []) i 0 (omega arith)))
      go (x ∷ y ∷ a) i z = absurd (omega (arith, z, one))

  pub one_small : k ≤ label_max
  one_small = one_step_small (subst OkP (one_label h.part.value h.part.value_is) h.part.allowed)

  module _ {l : ℕ} {r : Found} (z : l ≡ field_end t 3) (f : Finds t (span l te) k r) where
    pub elements_missing : r ≡ None → PartPost OkP path_bytes unwind t t te q (part_at c (span m e)) j s s
    elements_missing y = unwound_nothing h (λ a x o i fr.
        ap (λ p. unwound p x) (one_label a i) ∙ unwound_none k [] x ((f (labels x) (tree_parts x z fr.tree_is).labels_is).missing y))

    pub elements_under : {a b : ℕ} → r ≡ Some (span a b) → UnwoundEntry t te q c k (span a b)
    elements_under {a} {b} y = record {
      small = one_small;
      within = (entry_places (entry_of_lem z f y h.next.tree h.next.front.allowed.ok h.next.front.tree_is)).2;
      path_is = one_label;
      entry = entry_of_lem z f y;
    }

module _ {t₀ : List ℕ} {te : ℕ} {q : List ℕ} {c : Span} {m e : ℕ} {j : List ℕ} {s₀ : Collector} (h : PartReady OkP path_bytes t₀ te q (part_at c (span m e)) j s₀) {k f u : ℕ} (under : UnwoundEntry t₀ te q c k (span f u)) where
  pub elements_begin : Unwinding (LeftUnder k t₀ f u) t₀ te q (part_at c (span m e)) j s₀ t₀ s₀
  elements_begin = unwinding_begin h (LeftUnder k t₀ f u) (λ a x o i fr.
      let y = under.entry x fr.allowed.ok fr.tree_is in
      record { array = y.array; array_is = y.array_is; same = ap (λ p. unwound p x) (under.path_is a i) ∙ unwound_one k x (list y.array) y.same; allowed = unwound_allowed a x o fr.allowed })

  -- of one tree alone: the tree at the front went on
  pub elements_alone : {y : ℕ} {v : List ℕ} {r : Collector} → (f ≡ u → ⊥) → y ≡ field_end t₀ f → y ≡ u → FeedPost t₀ v te q (span m e) j s₀ r → PartPost OkP path_bytes unwind t₀ v te q (part_at c (span m e)) j s₀ r
  elements_alone {v = v} {r} n z w p a ss us x o i pl fr =
      let b = under.entry x fr.allowed.ok fr.tree_is in
      let d = trees_parts b.array z n b.array_is in
      let one : find k (labels x) ≡ some (d.first ∷ []) = b.same ∙ ap (λ l. some (list l)) (d.same ∙ ap (λ l. d.first ▹ l) (trees_none d.rest w d.rest_is)) in
      let same = ap (λ p. unwound p x) (under.path_is a i) ∙ unwound_alone k x d.first fr.allowed.ok one in
      subst (λ y. Feeds t₀ s₀ v r (stages us (before ss) y)) (sym (step_unwind us a fr.allowed ∙ ap going same)) (p ss us x pl fr)

  module _ {d : ℕ} {t : List ℕ} {s : Collector} (g : Unwinding (LeftUnder k t₀ d u) t₀ te q (part_at c (span m e)) j s₀ t s) where
    pub elements_end : d ≡ u → PartPost OkP path_bytes unwind t₀ t te q (part_at c (span m e)) j s₀ s
    elements_end z = unwinding_end h g (λ a x ys o i fr y. y.same ∙ ap (λ l. map (holding k x) (list l)) (trees_none y.array z y.array_is))

    -- the trees that are left
    left_trees : Holds trees_bytes t d u
    left_trees =
        let n = h.next in
        let y = g.rest h.part.value n.list n.joined n.tree h.part.allowed h.part.value_is n.planned n.front in
        record { value = y.left_is.array; value_is = front_now h g (omega (arith, under.within, front_fits n.front)) y.left_is.array_is }

    pub element_places : {x : ℕ} → (d ≡ u → ⊥) → x ≡ field_end t d → (d + 6 ≤ x) × (x ≤ u) × (u ≤ length t)
    element_places n z = trees_places left_trees n z

    module _ {y : ℕ} (n : d ≡ u → ⊥) (z : y ≡ field_end t d) where
      pub element_ready : ElementReady t k (span 0 te) (span f u) (span d y) (span tree_max (rooms 2))
      element_ready =
          let x = h.next.tree in
          let fr = h.next.front in
          let b = front_fits fr in
          let w : stage_min ≤ length t = omega (arith, h.next.room, g.same) in
          let p = element_places n z in
          record {
            tree = x;
            ok = fr.allowed.ok;
            tree_is = front_now h g b fr.tree_is;
            entry = λ x ok i. entry_kept (under.entry x ok (front_then h g b i)) g.kept b;
            label = under.small;
            element = holds_first left_trees n z;
            below = (b, omega (arith, p, under.within, b));
            room = omega (arith, b);
            inside = omega (arith, w);
            small = omega (arith, h.next.small, g.same);
          }

      module _ {v : List ℕ} {r : Out} (l : length v ≡ length t) (puts : PutsElement t v k (span 0 te) (span d y) (span tree_max (rooms 2)) r) where
        -- the first that is left gives the first outcome
        element_one : (a : Path) (x : Tree) (ys : List Tree) → Front t₀ te x → LeftUnder k t₀ d u a x ys
            → (w : Tree) × (others : Trees) × (ys ≡ holding k x w ∷ map (holding k x) (list others)) × Wrote t v tree_max (rooms 2) (tree_bytes (holding k x w)) r × Is t₀ y u (trees_bytes others)
        element_one a x ys fr i =
            let b = front_fits fr in
            let at : u ≤ tree_max = omega (arith, under.within, b) in
            let p = trees_parts i.array z n (front_now h g at i.array_is) in
            let q2 = front_now h g b fr.tree_is in
            (p.first, p.rest, i.same ∙ elements_next k x p.first p.rest p.same, puts x p.first fr.allowed.ok q2 p.first_is, front_then h g at p.rest_is)

        element_first : (w : Tree) × (xs : List Tree) × AllowedA (w ∷ xs) × Wrote t v tree_max (rooms 2) (tree_bytes w) r
        element_first =
            let o = h.next in
            let i = g.rest h.part.value o.list o.joined o.tree h.part.allowed h.part.value_is o.planned o.front in
            let b = element_one h.part.value o.tree i.left o.front i.left_is in
            (holding k o.tree b.0, map (holding k o.tree) (list b.1), subst AllowedA b.2 i.left_is.allowed, b.3)

        pub element_never : r ≡ Err too_large → ⊥
        element_never y = let b = element_first in omega (arith, (b.3.large y).over, length_tree b.0, b.2.0.small)

        pub element_kept : take tree_max v ≡ take tree_max t
        element_kept = written_kept l (wide h g) element_first.3

        pub element_ends : ends v ≡ ends t
        element_ends = written_ends l (wide h g) element_first.3

        pub element_parts : {o : ℕ} → r ≡ Ok o → (a : Path) (x : Tree) (ys : List Tree) → OkP a → IsAt q c (path_bytes a) → Front t₀ te x → LeftUnder k t₀ d u a x ys → Parted (LeftUnder k t₀ y u) v o a x ys
        element_parts e a x ys ok i fr w =
            let b = element_one a x ys fr w in
            let al = subst AllowedA b.2 w.allowed in
            record {
              first = holding k x b.0;
              others = map (holding k x) (list b.1);
              same = b.2;
              allowed = al.0;
              first_is = written_is l (wide h g) b.3 e;
              others_are = record { array = b.1; array_is = b.4; same = refl; allowed = al.1 };
            }
