-- The proof of the cycle of stages::merge, by answers to its goals: a tree, its labels, a first label, a label in
-- both, two arrays. The places move up; between two moves the functions have a rank. What is right for the rest is
-- right for the whole.
use Rattle.std.proofs.Common.{arith, refl, ◌∙◌}
use Rattle.format.specs.StandLaws.{heads_most, tree_places, labels_places, trees_places}
use Rattle.merge.specs.MergeBytesLaws.{first_copied, second_copied, turn_fail, turn_next, turn_ready, tree_no_room, ready_root, tree_fail, ready_labels, tree_finishable, tree_done, labels_first_none, labels_second_none, ready_first, labels_turn, places_move, places_fall, entry_places, entry_heads, entry_trees_at, first_less, first_more, entry_both, entry_no_room, ready_arrays, array_finishable, entry_finishable, entry_done, trees_first_none, trees_second_none, ready_node, trees_turn}
use Rattle.merge.proofs.merge.+merging.Goals as goal
use Rattle.areas.specs.AreaLaws.{handed_on}

pub merge_entry-label_at-requires : goal.merge_entry-label_at-requires
merge_entry-label_at-requires t c = omega (arith, (entry_places c.requires.first))

pub merge_entry-overflow_add-x : goal.merge_entry-overflow_add-x
merge_entry-overflow_add-x t c =
    omega (arith, (entry_places c.requires.first), c.requires.area, c.heads-n.ensures, heads_most c.label_at.result)

pub merge_entry-trees_at-y-requires : goal.merge_entry-trees_at-y-requires
merge_entry-trees_at-y-requires t c = omega (arith, (entry_places c.requires.second))

pub merge_entry-overflow_sub-stop : goal.merge_entry-overflow_sub-stop
merge_entry-overflow_sub-stop t c =
    omega (
      arith,
      (entry_trees_at c.requires.first (entry_heads c.requires.first c.label_at.ensures c.heads-n.ensures)),
      c.requires.room,
    )

pub merge_entry-returns-then-stop-d : goal.merge_entry-returns-then-stop-d
merge_entry-returns-then-stop-d t c =
    entry_no_room {n = c.heads-n.result} c.args.one.to c.args.other.from c.args.other.to c.args.room.from c.args.room.to
    (entry_heads c.requires.first c.label_at.ensures c.heads-n.ensures) (omega arith) (omega (
      arith,
      (entry_trees_at
          c.requires.first (entry_heads c.requires.first c.label_at.ensures c.heads-n.ensures)),
    ))

pub merge_entry-overflow_add-at : goal.merge_entry-overflow_add-at
merge_entry-overflow_add-at t c =
    omega (
      arith,
      (entry_places c.requires.first),
      (entry_places c.requires.second),
      (entry_trees_at c.requires.first
          (entry_heads c.requires.first c.label_at.ensures c.heads-n.ensures)),
      c.requires.area,
      c.if-stop-d.false,
    )

pub merge_entry-bounds-work-i : goal.merge_entry-bounds-work-i
merge_entry-bounds-work-i t c = omega (arith, (entry_places c.requires.first))

pub merge_entry-overflow_add-label : goal.merge_entry-overflow_add-label
merge_entry-overflow_add-label t c =
    omega (
      arith,
      (entry_places c.requires.first),
      (entry_places c.requires.second),
      (entry_trees_at c.requires.first
          (entry_heads c.requires.first c.label_at.ensures c.heads-n.ensures)),
      c.requires.area,
      c.if-stop-d.false,
    )

pub merge_entry-overflow_sub-label : goal.merge_entry-overflow_sub-label
merge_entry-overflow_sub-label t c =
    omega (
      arith,
      (entry_trees_at c.requires.first (entry_heads c.requires.first c.label_at.ensures c.heads-n.ensures)),
      c.requires.room,
    )

pub merge_entry-overflow_add-front : goal.merge_entry-overflow_add-front
merge_entry-overflow_add-front t c =
    omega (
      arith,
      (entry_places c.requires.first),
      (entry_places c.requires.second),
      (entry_trees_at c.requires.first
          (entry_heads c.requires.first c.label_at.ensures c.heads-n.ensures)),
      c.requires.area,
      c.if-stop-d.false,
    )

pub merge_entry-copy-requires : goal.merge_entry-copy-requires
merge_entry-copy-requires t c =
    omega (
      arith,
      (entry_places c.requires.first),
      (entry_places c.requires.second),
      (entry_trees_at c.requires.first
          (entry_heads c.requires.first c.label_at.ensures c.heads-n.ensures)),
    )

pub merge_entry-merge_trees-trees-requires : goal.merge_entry-merge_trees-trees-requires
merge_entry-merge_trees-trees-requires t c = (
  omega (
    arith,
    c.decreases,
    (entry_places c.requires.first),
    (entry_places c.requires.second),
    (entry_trees_at
        c.requires.first (entry_heads c.requires.first c.label_at.ensures c.heads-n.ensures)),
    (entry_trees_at
        c.requires.second c.trees_at-y.ensures),
  ),
  ready_arrays (entry_heads c.requires.first c.label_at.ensures
      c.heads-n.ensures) (omega arith) c.trees_at-y.ensures refl c.requires (omega (
        arith,
        (entry_trees_at
            c.requires.first (entry_heads c.requires.first c.label_at.ensures c.heads-n.ensures)),
      )) c.copy.ensures
      c.copy.auto.work,
)

pub merge_entry-overflow_sub-at : goal.merge_entry-overflow_sub-at
merge_entry-overflow_sub-at t c =
    omega (
      arith,
      (entry_trees_at c.requires.first (entry_heads c.requires.first c.label_at.ensures c.heads-n.ensures)),
      c.requires.room,
    )

pub merge_entry-finish-array-requires : goal.merge_entry-finish-array-requires
merge_entry-finish-array-requires t c = (
  array_finishable (entry_heads c.requires.first c.label_at.ensures c.heads-n.ensures) (omega arith)
      c.trees_at-y.ensures refl c.requires (omega (
        arith,
        (entry_trees_at c.requires.first (entry_heads c.requires.first
            c.label_at.ensures c.heads-n.ensures)),
      )) c.copy.ensures c.copy.auto.work c.merge_trees-trees.ensures
      (c.merge_trees-trees.auto.work ∙ c.copy.auto.work),
  omega arith,
)

pub merge_entry-finish-requires : goal.merge_entry-finish-requires
merge_entry-finish-requires t c = (
  entry_finishable (entry_heads c.requires.first c.label_at.ensures c.heads-n.ensures) (omega arith)
      c.trees_at-y.ensures refl c.requires (omega (
        arith,
        (entry_trees_at c.requires.first (entry_heads c.requires.first
            c.label_at.ensures c.heads-n.ensures)),
      )) c.copy.ensures c.copy.auto.work c.merge_trees-trees.ensures
      c.finish-array.ensures (c.finish-array.auto.work ∙ c.merge_trees-trees.auto.work ∙ c.copy.auto.work),
  omega arith,
)

pub merge_entry-returns : goal.merge_entry-returns
merge_entry-returns t c =
    entry_done (entry_heads c.requires.first c.label_at.ensures c.heads-n.ensures) (omega arith) c.trees_at-y.ensures
    refl c.requires (omega (
      arith,
      (entry_trees_at c.requires.first (entry_heads c.requires.first c.label_at.ensures
          c.heads-n.ensures)),
    )) c.copy.ensures c.copy.auto.work c.merge_trees-trees.ensures c.finish-array.ensures
    c.finish.ensures

pub merge_first-label_at-x-requires : goal.merge_first-label_at-x-requires
merge_first-label_at-x-requires t c = omega (arith, (entry_places c.requires.first))

pub merge_first-label_at-y-requires : goal.merge_first-label_at-y-requires
merge_first-label_at-y-requires t c = omega (arith, (entry_places c.requires.second))

pub merge_first-returns-then-x-y : goal.merge_first-returns-then-x-y
merge_first-returns-then-x-y t c =
    first_copied (λ x y hx hy. first_less c.label_at-x.ensures c.label_at-y.ensures x y hx hy c.if-x-y.true)
    c.copy.ensures

pub merge_first-returns-then-y-x : goal.merge_first-returns-then-y-x
merge_first-returns-then-y-x t c =
    second_copied (λ x y hx hy. first_more c.label_at-x.ensures c.label_at-y.ensures x y hx hy c.if-y-x.true)
    c.copy-then-y-x.ensures

pub merge_first-merge_entry-requires : goal.merge_first-merge_entry-requires
merge_first-merge_entry-requires t c = (omega (arith, c.decreases), c.requires)

pub merge_first-returns : goal.merge_first-returns
merge_first-returns t c =
    entry_both c.label_at-x.ensures c.label_at-y.ensures c.if-x-y.false c.if-y-x.false c.merge_entry.ensures

pub merge_labels-loop-p-init : goal.merge_labels-loop-p-init
merge_labels-loop-p-init t c = (omega arith, omega arith, refl, c.requires, λ u r h. h)

pub merge_labels-returns-then-q-end2 : goal.merge_labels-returns-then-q-end2
merge_labels-returns-then-q-end2 t c =
    c.loop-p.invariant.4 c.copy.new.work c.copy.result (first_copied (labels_second_none c.loop-p.work c.loop-p.p
    c.args.one.to c.loop-p.q c.args.other.to c.if-q-end2.true) c.copy.ensures)

pub merge_labels-field_end-m-requires : goal.merge_labels-field_end-m-requires
merge_labels-field_end-m-requires t c =
    omega (arith, (labels_places c.loop-p.invariant.3.first c.loop-p-test.true refl))

pub merge_labels-field_end-n-requires : goal.merge_labels-field_end-n-requires
merge_labels-field_end-n-requires t c =
    omega (arith, (labels_places c.loop-p.invariant.3.second c.if-q-end2.false refl))

pub merge_labels-label_at-x-requires : goal.merge_labels-label_at-x-requires
merge_labels-label_at-x-requires t c = omega (arith, (labels_places c.loop-p.invariant.3.first c.loop-p-test.true refl))

pub merge_labels-label_at-y-requires : goal.merge_labels-label_at-y-requires
merge_labels-label_at-y-requires t c = omega (arith, (labels_places c.loop-p.invariant.3.second c.if-q-end2.false refl))

pub merge_labels-merge_first-requires : goal.merge_labels-merge_first-requires
merge_labels-merge_first-requires t c = (
  omega (
    arith,
    c.decreases,
    (labels_places c.loop-p.invariant.3.first c.loop-p-test.true c.field_end-m.ensures),
    (labels_places c.loop-p.invariant.3.second c.if-q-end2.false c.field_end-n.ensures),
  ),
  ready_first
      c.field_end-m.ensures c.field_end-n.ensures c.loop-p-test.true c.if-q-end2.false c.loop-p.invariant.3,
)

pub merge_labels-returns-in_err-e : goal.merge_labels-returns-in_err-e
merge_labels-returns-in_err-e t c =
    rw (handed_on _ c.from_residual.result c.from_residual.ensures.1) (c.loop-p.invariant.4 c.merge_first.new.work _ (turn_fail (labels_turn c.field_end-m.ensures
    c.field_end-n.ensures c.loop-p-test.true c.if-q-end2.false c.label_at-x.ensures c.label_at-y.ensures refl refl
    c.merge_first.ensures) c.in_err-e.was))

pub merge_labels-loop-p-smaller : goal.merge_labels-loop-p-smaller
merge_labels-loop-p-smaller t c =
    let a = (labels_places c.loop-p.invariant.3.first c.loop-p-test.true c.field_end-m.ensures) in
    let b = (labels_places c.loop-p.invariant.3.second c.if-q-end2.false c.field_end-n.ensures) in
    places_fall c.label_at-x.result c.label_at-y.result c.loop-p.p c.field_end-m.result c.args.one.to c.loop-p.q
    c.field_end-n.result c.args.other.to (omega arith) (omega arith) a.1 b.1 c.choose-p.ensures c.choose-q.ensures

pub merge_labels-loop-p-preserved : goal.merge_labels-loop-p-preserved
merge_labels-loop-p-preserved t c =
    let f = (places_move c.label_at-x.result c.label_at-y.result c.loop-p.p c.field_end-m.result c.loop-p.q
    c.field_end-n.result (omega (
      arith,
      (labels_places c.loop-p.invariant.3.first c.loop-p-test.true
          c.field_end-m.ensures),
    )) (omega (
      arith,
      (labels_places c.loop-p.invariant.3.second c.if-q-end2.false
          c.field_end-n.ensures),
    ))) in (
      omega (arith, c.choose-p.ensures),
      omega (arith, c.choose-q.ensures),
      c.merge_first.auto.work ∙
          c.loop-p.invariant.2,
      turn_ready (labels_turn c.field_end-m.ensures c.field_end-n.ensures c.loop-p-test.true
          c.if-q-end2.false c.label_at-x.ensures c.label_at-y.ensures c.choose-p.ensures c.choose-q.ensures
          c.merge_first.ensures) c.loop-p.invariant.3 c.in_ok-e.was c.merge_first.auto.work,
      λ u r h.
          c.loop-p.invariant.4 u r (turn_next (labels_turn c.field_end-m.ensures c.field_end-n.ensures c.loop-p-test.true
          c.if-q-end2.false c.label_at-x.ensures c.label_at-y.ensures c.choose-p.ensures c.choose-q.ensures
          c.merge_first.ensures) c.loop-p.invariant.3 c.in_ok-e.was h),
    )

pub merge_labels-returns : goal.merge_labels-returns
merge_labels-returns t c =
    c.loop-p.invariant.4 c.copy-2.new.work c.copy-2.result (second_copied (labels_first_none c.loop-p.work c.loop-p.p
    c.args.one.to c.loop-p.q c.args.other.to c.loop-p-test.false) c.copy-2.ensures)

pub merge_node-returns-then-stop-room-lt3 : goal.merge_node-returns-then-stop-room-lt3
merge_node-returns-then-stop-room-lt3 t c =
    tree_no_room c.args.work.now c.args.one.from c.args.one.to c.args.other.from c.args.other.to c.args.room.from
    c.args.room.to (omega arith)

pub merge_node-overflow_add-s : goal.merge_node-overflow_add-s
merge_node-overflow_add-s t c = omega (arith, (tree_places c.requires.first refl), (tree_places c.requires.second refl))

pub merge_node-overflow_add-t : goal.merge_node-overflow_add-t
merge_node-overflow_add-t t c = omega (arith, (tree_places c.requires.first refl), (tree_places c.requires.second refl))

pub merge_node-overflow_add-d : goal.merge_node-overflow_add-d
merge_node-overflow_add-d t c = omega (arith, (tree_places c.requires.first refl), (tree_places c.requires.second refl))

pub merge_node-field_end-m-requires : goal.merge_node-field_end-m-requires
merge_node-field_end-m-requires t c = omega (arith, (tree_places c.requires.first refl))

pub merge_node-field_end-n-requires : goal.merge_node-field_end-n-requires
merge_node-field_end-n-requires t c = omega (arith, (tree_places c.requires.second refl))

pub merge_node-merge_root-requires : goal.merge_node-merge_root-requires
merge_node-merge_root-requires t c =
    ready_root c.requires c.field_end-m.ensures c.field_end-n.ensures (omega arith)

pub merge_node-returns-in_err-e : goal.merge_node-returns-in_err-e
merge_node-returns-in_err-e t c =
    rw (handed_on _ c.from_residual.result c.from_residual.ensures.1) (tree_fail c.requires c.field_end-m.ensures c.field_end-n.ensures (omega arith) c.merge_root.ensures
    c.in_err-e.was)

pub merge_node-merge_labels-all-requires : goal.merge_node-merge_labels-all-requires
merge_node-merge_labels-all-requires t c = (
  omega (
    arith,
    c.decreases,
    tree_places c.requires.first c.field_end-m.ensures,
    tree_places c.requires.second
        c.field_end-n.ensures,
  ),
  ready_labels c.requires c.field_end-m.ensures c.field_end-n.ensures (omega arith)
      c.merge_root.ensures c.in_ok-e.was c.merge_root.auto.work,
)

pub merge_node-finish-requires : goal.merge_node-finish-requires
merge_node-finish-requires t c = (
  tree_finishable c.requires c.field_end-m.ensures c.field_end-n.ensures (omega arith) c.merge_root.ensures
      c.in_ok-e.was c.merge_labels-all.ensures (c.merge_labels-all.auto.work ∙ c.merge_root.auto.work),
  omega arith,
)

pub merge_node-returns : goal.merge_node-returns
merge_node-returns t c =
    tree_done c.requires c.field_end-m.ensures c.field_end-n.ensures (omega arith) c.merge_root.ensures c.in_ok-e.was
    c.merge_labels-all.ensures c.finish.ensures

pub merge_trees-loop-a-init : goal.merge_trees-loop-a-init
merge_trees-loop-a-init t c = (omega arith, omega arith, refl, c.requires, λ u r h. h)

pub merge_trees-returns-then-b-end2 : goal.merge_trees-returns-then-b-end2
merge_trees-returns-then-b-end2 t c =
    c.loop-a.invariant.4 c.copy.new.work c.copy.result (first_copied (trees_second_none c.loop-a.work c.loop-a.a
    c.args.one.to c.loop-a.b c.args.other.to c.if-b-end2.true) c.copy.ensures)

pub merge_trees-field_end-m-requires : goal.merge_trees-field_end-m-requires
merge_trees-field_end-m-requires t c = omega (arith, (trees_places c.loop-a.invariant.3.first c.loop-a-test.true refl))

pub merge_trees-field_end-n-requires : goal.merge_trees-field_end-n-requires
merge_trees-field_end-n-requires t c = omega (arith, (trees_places c.loop-a.invariant.3.second c.if-b-end2.false refl))

pub merge_trees-merge_node-requires : goal.merge_trees-merge_node-requires
merge_trees-merge_node-requires t c = (
  omega (
    arith,
    c.decreases,
    (trees_places c.loop-a.invariant.3.first c.loop-a-test.true c.field_end-m.ensures),
    (trees_places c.loop-a.invariant.3.second c.if-b-end2.false c.field_end-n.ensures),
  ),
  ready_node
      c.field_end-m.ensures c.field_end-n.ensures c.loop-a-test.true c.if-b-end2.false c.loop-a.invariant.3,
)

pub merge_trees-returns-in_err-e : goal.merge_trees-returns-in_err-e
merge_trees-returns-in_err-e t c =
    rw (handed_on _ c.from_residual.result c.from_residual.ensures.1) (c.loop-a.invariant.4 c.merge_node.new.work _ (turn_fail (trees_turn c.field_end-m.ensures
    c.field_end-n.ensures c.loop-a-test.true c.if-b-end2.false c.merge_node.ensures) c.in_err-e.was))

pub merge_trees-loop-a-smaller : goal.merge_trees-loop-a-smaller
merge_trees-loop-a-smaller t c =
    omega (arith, (trees_places c.loop-a.invariant.3.first c.loop-a-test.true c.field_end-m.ensures))

pub merge_trees-loop-a-preserved : goal.merge_trees-loop-a-preserved
merge_trees-loop-a-preserved t c = (
  omega (arith, (trees_places c.loop-a.invariant.3.first c.loop-a-test.true c.field_end-m.ensures)),
  omega (
    arith,
    (trees_places c.loop-a.invariant.3.second c.if-b-end2.false c.field_end-n.ensures),
  ),
  c.merge_node.auto.work ∙
      c.loop-a.invariant.2,
  turn_ready (trees_turn c.field_end-m.ensures c.field_end-n.ensures c.loop-a-test.true
      c.if-b-end2.false c.merge_node.ensures) c.loop-a.invariant.3 c.in_ok-e.was c.merge_node.auto.work,
  λ u r h.
      c.loop-a.invariant.4 u r (turn_next (trees_turn c.field_end-m.ensures c.field_end-n.ensures c.loop-a-test.true
      c.if-b-end2.false c.merge_node.ensures) c.loop-a.invariant.3 c.in_ok-e.was h),
)

pub merge_trees-returns : goal.merge_trees-returns
merge_trees-returns t c =
    c.loop-a.invariant.4 c.copy-2.new.work c.copy-2.result (second_copied (trees_first_none c.loop-a.work c.loop-a.a
    c.args.one.to c.loop-a.b c.args.other.to c.loop-a-test.false) c.copy-2.ensures)
