-- The proof of the cycle that feeds a tree, by answers to its goals: each stage takes some of the query's bytes, and
-- what is right for the outcomes that are left is right for all.
use Rattle.std.proofs.Common.{arith, refl, sym, ◌∙◌, ◌≤◌}
use Rattle.spec_trees.specs.Limits.{nest_max}
use Rattle.format.specs.StandLaws.{tree_places, holds_labels}
use Rattle.spec_queries.specs.Query.{match, unwind, project}
use Rattle.spec_queries.specs.Rules.{OkP, NestedC}
use Rattle.queries.specs.Places.{path_bytes, criterion_bytes, items_bytes}
use Rattle.place.specs.WriterLaws.{along_room, along_inside}
use Rattle.stream.specs.Feed.{OkItems}
use Rattle.stream.specs.FeedLaws as law
use Rattle.stream.specs.UnwindLaws as each
use Rattle.stream.proofs.feed.+feeding.Goals as goal

pub feed-collect-requires : goal.feed-collect-requires
feed-collect-requires t c = law.collect_ready (omega arith) c.requires

pub feed-returns-then-at-to : goal.feed-returns-then-at-to
feed-returns-then-at-to t c = law.feed_end c.if-at-to.true c.collect.ensures

pub feed-field_end-m-requires : goal.feed-field_end-m-requires
feed-field_end-m-requires t c = omega (arith, law.feed_places c.if-at-to.false refl c.requires)

pub feed-stage_at-stage-requires : goal.feed-stage_at-stage-requires
feed-stage_at-stage-requires t c = law.feed_stage c.if-at-to.false c.field_end-m.ensures c.requires

pub feed-feed_matched-requires : goal.feed-feed_matched-requires
feed-feed_matched-requires t c = (
  (omega (arith, c.decreases, law.feed_places c.if-at-to.false c.field_end-m.ensures c.requires)),
  law.part_ready
      c.if-at-to.false c.field_end-m.ensures (NestedC nest_max) criterion_bytes match law.plain_match (λ a o. o) (λ x i.
      (c.stage_at-stage.ensures x i).match_is _ c.in-Match.is) c.requires,
)

pub feed-returns-in-Match : goal.feed-returns-in-Match
feed-returns-in-Match t c =
    law.feed_part c.if-at-to.false c.field_end-m.ensures (NestedC nest_max) criterion_bytes match law.plain_match (λ a
    o. o) (λ x i. (c.stage_at-stage.ensures x i).match_is _ c.in-Match.is) c.feed_matched.ensures

pub feed-feed_unwound-requires : goal.feed-feed_unwound-requires
feed-feed_unwound-requires t c = (
  (omega (arith, c.decreases, law.feed_places c.if-at-to.false c.field_end-m.ensures c.requires)),
  law.part_ready
      c.if-at-to.false c.field_end-m.ensures OkP path_bytes unwind law.plain_unwind (λ a o. o) (λ x i.
      (c.stage_at-stage.ensures x i).unwind_is _ c.in-Unwind.is) c.requires,
)

pub feed-returns-in-Unwind : goal.feed-returns-in-Unwind
feed-returns-in-Unwind t c =
    law.feed_part c.if-at-to.false c.field_end-m.ensures OkP path_bytes unwind law.plain_unwind (λ a o. o) (λ x i.
    (c.stage_at-stage.ensures x i).unwind_is _ c.in-Unwind.is) c.feed_unwound.ensures

pub feed-feed_projected-requires : goal.feed-feed_projected-requires
feed-feed_projected-requires t c = (
  (omega (arith, c.decreases, law.feed_places c.if-at-to.false c.field_end-m.ensures c.requires)),
  law.part_ready
      c.if-at-to.false c.field_end-m.ensures OkItems items_bytes project law.plain_project (λ a o. o) (λ x i.
      (c.stage_at-stage.ensures x i).project_is _ c.in-Project.is) c.requires,
)

pub feed-returns-in-Project : goal.feed-returns-in-Project
feed-returns-in-Project t c =
    law.feed_part c.if-at-to.false c.field_end-m.ensures OkItems items_bytes project law.plain_project (λ a o. o) (λ x
    i. (c.stage_at-stage.ensures x i).project_is _ c.in-Project.is) c.feed_projected.ensures

pub feed-collect-requires-in-Group : goal.feed-collect-requires-in-Group
feed-collect-requires-in-Group t c = law.collect_ready (omega arith) c.requires

pub feed-returns-in-Group : goal.feed-returns-in-Group
feed-returns-in-Group t c =
    law.feed_group c.if-at-to.false c.field_end-m.ensures (law.group_next c.stage_at-stage.ensures c.in-Group.is)
    c.collect-in-Group.ensures

pub feed-feed_looked-requires : goal.feed-feed_looked-requires
feed-feed_looked-requires t c = (
  (omega (arith, c.decreases, law.feed_places c.if-at-to.false c.field_end-m.ensures c.requires)),
  law.join_ready
      c.if-at-to.false c.field_end-m.ensures (λ x i. (c.stage_at-stage.ensures x i).lookup_is _ c.in-Lookup.is)
      c.requires,
)

pub feed-returns-in-Lookup : goal.feed-returns-in-Lookup
feed-returns-in-Lookup t c =
    law.feed_join c.if-at-to.false c.field_end-m.ensures (λ x i. (c.stage_at-stage.ensures x i).lookup_is _
    c.in-Lookup.is) c.feed_looked.ensures

pub feed_each-loop-from-init : goal.feed_each-loop-from-init
feed_each-loop-from-init t c = each.elements_begin c.requires.0 c.requires.1

pub feed_each-field_end-m-requires : goal.feed_each-field_end-m-requires
feed_each-field_end-m-requires t c =
    omega (arith, each.element_places c.requires.0 c.requires.1 c.loop-from.invariant c.loop-from-test.true refl)

pub feed_each-put_element-requires : goal.feed_each-put_element-requires
feed_each-put_element-requires t c =
    each.element_ready c.requires.0 c.requires.1 c.loop-from.invariant c.loop-from-test.true c.field_end-m.ensures

pub feed_each-returns-in_default : goal.feed_each-returns-in_default
feed_each-returns-in_default t c =
    absurd (each.element_never c.requires.0 c.requires.1 c.loop-from.invariant c.loop-from-test.true
    c.field_end-m.ensures c.put_element.auto.work c.put_element.ensures c.in_default.is)

pub feed_each-slice_bounds-feed-count : goal.feed_each-slice_bounds-feed-count
feed_each-slice_bounds-feed-count t c =
    omega (arith, each.wide c.requires.0 c.loop-from.invariant, c.put_element.auto.work)

pub feed_each-slice_bounds-feed-start : goal.feed_each-slice_bounds-feed-start
feed_each-slice_bounds-feed-start t c =
    omega (arith, each.wide c.requires.0 c.loop-from.invariant, c.put_element.auto.work)

pub feed_each-slice_bounds-feed-end : goal.feed_each-slice_bounds-feed-end
feed_each-slice_bounds-feed-end t c =
    omega (arith, each.wide c.requires.0 c.loop-from.invariant, c.put_element.auto.work)

pub feed_each-overflow_sub-o : goal.feed_each-overflow_sub-o
feed_each-overflow_sub-o t c =
    each.outcome_end c.requires.0 c.loop-from.invariant c.put_element.auto.work (each.element_kept c.requires.0
    c.requires.1 c.loop-from.invariant c.loop-from-test.true c.field_end-m.ensures c.put_element.auto.work
    c.put_element.ensures) (each.element_ends c.requires.0 c.requires.1 c.loop-from.invariant c.loop-from-test.true
    c.field_end-m.ensures c.put_element.auto.work c.put_element.ensures) (each.element_parts c.requires.0
    c.requires.1 c.loop-from.invariant c.loop-from-test.true c.field_end-m.ensures c.put_element.auto.work
    c.put_element.ensures c.in-Ok.is)

pub feed_each-feed-held-requires : goal.feed_each-feed-held-requires
feed_each-feed-held-requires t c = (
  omega (arith, c.decreases),
  each.outcome_ready c.requires.0 c.loop-from.invariant c.put_element.auto.work
      (each.element_kept c.requires.0 c.requires.1 c.loop-from.invariant c.loop-from-test.true c.field_end-m.ensures
      c.put_element.auto.work c.put_element.ensures) (each.element_ends c.requires.0 c.requires.1
      c.loop-from.invariant c.loop-from-test.true c.field_end-m.ensures c.put_element.auto.work
      c.put_element.ensures) (each.element_parts c.requires.0 c.requires.1 c.loop-from.invariant c.loop-from-test.true
      c.field_end-m.ensures c.put_element.auto.work c.put_element.ensures c.in-Ok.is),
)

pub feed_each-returns-then-is_large : goal.feed_each-returns-then-is_large
feed_each-returns-then-is_large t c =
    each.unwinding_stop c.requires.0 c.loop-from.invariant c.put_element.auto.work (each.element_kept c.requires.0
    c.requires.1 c.loop-from.invariant c.loop-from-test.true c.field_end-m.ensures c.put_element.auto.work
    c.put_element.ensures) (each.element_ends c.requires.0 c.requires.1 c.loop-from.invariant c.loop-from-test.true
    c.field_end-m.ensures c.put_element.auto.work c.put_element.ensures) (each.element_parts c.requires.0
    c.requires.1 c.loop-from.invariant c.loop-from-test.true c.field_end-m.ensures c.put_element.auto.work
    c.put_element.ensures c.in-Ok.is) c.feed-held.auto.tail c.feed-held.ensures _ (sym c.is_large.ensures ∙
    c.if-is_large.true)

pub feed_each-loop-from-smaller : goal.feed_each-loop-from-smaller
feed_each-loop-from-smaller t c =
    omega (
      arith,
      each.element_places c.requires.0 c.requires.1 c.loop-from.invariant c.loop-from-test.true
          c.field_end-m.ensures,
    )

pub feed_each-loop-from-preserved : goal.feed_each-loop-from-preserved
feed_each-loop-from-preserved t c =
    each.unwinding_next c.requires.0 c.loop-from.invariant c.put_element.auto.work (each.element_kept c.requires.0
    c.requires.1 c.loop-from.invariant c.loop-from-test.true c.field_end-m.ensures c.put_element.auto.work
    c.put_element.ensures) (each.element_ends c.requires.0 c.requires.1 c.loop-from.invariant c.loop-from-test.true
    c.field_end-m.ensures c.put_element.auto.work c.put_element.ensures) (each.element_parts c.requires.0
    c.requires.1 c.loop-from.invariant c.loop-from-test.true c.field_end-m.ensures c.put_element.auto.work
    c.put_element.ensures c.in-Ok.is) c.feed-held.auto.tail c.feed-held.ensures (sym c.is_large.ensures ∙
    c.if-is_large.false)

pub feed_each-returns : goal.feed_each-returns
feed_each-returns t c = each.elements_end c.requires.0 c.requires.1 c.loop-from.invariant c.loop-from-test.false

pub feed_elements-step_at-label-requires : goal.feed_elements-step_at-label-requires
feed_elements-step_at-label-requires t c = along_inside (each.path_along c.requires.0) 0 (omega (arith, c.requires.1))

pub feed_elements-field_end-l-requires : goal.feed_elements-field_end-l-requires
feed_elements-field_end-l-requires t c = omega (arith, tree_places (each.front_tree c.requires.0) refl)

pub feed_elements-find-requires : goal.feed_elements-find-requires
feed_elements-find-requires t c = holds_labels (each.front_tree c.requires.0) c.field_end-l.ensures

pub feed_elements-returns-in_default : goal.feed_elements-returns-in_default
feed_elements-returns-in_default t c =
    each.elements_missing c.requires.0 c.requires.1 c.step_at-label.ensures c.field_end-l.ensures c.find.ensures
    c.in_default.is

pub feed_elements-returns-then-f-t : goal.feed_elements-returns-then-f-t
feed_elements-returns-then-f-t t c =
    each.elements_end c.requires.0 (each.elements_under c.requires.0 c.requires.1 c.step_at-label.ensures
    c.field_end-l.ensures c.find.ensures c.in-Some.is) (each.elements_begin c.requires.0 (each.elements_under
    c.requires.0 c.requires.1 c.step_at-label.ensures c.field_end-l.ensures c.find.ensures c.in-Some.is))
    c.if-f-t.true

pub feed_elements-field_end-requires : goal.feed_elements-field_end-requires
feed_elements-field_end-requires t c =
    omega (
      arith,
      each.element_places c.requires.0 (each.elements_under c.requires.0 c.requires.1
          c.step_at-label.ensures c.field_end-l.ensures c.find.ensures c.in-Some.is) (each.elements_begin c.requires.0
          (each.elements_under c.requires.0 c.requires.1 c.step_at-label.ensures c.field_end-l.ensures c.find.ensures
          c.in-Some.is)) c.if-f-t.false refl,
    )

pub feed_elements-feed_each-requires : goal.feed_elements-feed_each-requires
feed_elements-feed_each-requires t c = (
  omega (arith, c.decreases),
  (
    c.requires.0,
    (each.elements_under c.requires.0 c.requires.1 c.step_at-label.ensures
        c.field_end-l.ensures c.find.ensures c.in-Some.is),
  ),
)

pub feed_elements-feed-requires : goal.feed_elements-feed-requires
feed_elements-feed-requires t c = (omega (arith, c.decreases), law.next_ready c.requires.0.next)

pub feed_elements-returns : goal.feed_elements-returns
feed_elements-returns t c =
    each.elements_alone c.requires.0 (each.elements_under c.requires.0 c.requires.1 c.step_at-label.ensures
    c.field_end-l.ensures c.find.ensures c.in-Some.is) c.if-f-t.false c.field_end.ensures c.if-field_end-t.false
    c.feed.ensures

pub feed_looked-lookup-requires : goal.feed_looked-lookup-requires
feed_looked-lookup-requires t c = law.lookup_ready c.requires

pub feed_looked-returns-in_default : goal.feed_looked-returns-in_default
feed_looked-returns-in_default t c =
    law.lookup_large c.requires c.lookup.auto.work c.lookup.ensures c.in_default.is

pub feed_looked-feed-requires : goal.feed_looked-feed-requires
feed_looked-feed-requires t c =
    (omega (arith, c.decreases), law.lookup_next c.requires c.lookup.auto.work c.lookup.ensures c.in-Ok.is)

pub feed_looked-returns : goal.feed_looked-returns
feed_looked-returns t c =
    law.lookup_fed c.requires c.lookup.auto.work c.lookup.ensures c.in-Ok.is c.feed.ensures

pub feed_matched-holds-requires : goal.feed_matched-holds-requires
feed_matched-holds-requires t c = law.match_reads c.requires

pub feed_matched-feed-requires : goal.feed_matched-feed-requires
feed_matched-feed-requires t c = (omega (arith, c.decreases), law.next_ready c.requires.next)

pub feed_matched-returns-then-holds : goal.feed_matched-returns-then-holds
feed_matched-returns-then-holds t c = law.match_kept c.requires c.holds.ensures c.if-holds.true c.feed.ensures

pub feed_matched-returns : goal.feed_matched-returns
feed_matched-returns t c = law.match_dropped c.requires c.holds.ensures c.if-holds.false

pub feed_outcomes-outcomes-n-requires : goal.feed_outcomes-outcomes-n-requires
feed_outcomes-outcomes-n-requires t c = (each.path_along c.requires, omega arith, each.front_tree c.requires)

pub feed_outcomes-loop-i-init : goal.feed_outcomes-loop-i-init
feed_outcomes-loop-i-init t c = each.outcomes_begin c.requires

pub feed_outcomes-put_outcome-requires : goal.feed_outcomes-put_outcome-requires
feed_outcomes-put_outcome-requires t c =
    each.outcome_writes c.requires c.outcomes-n.ensures c.loop-i.invariant c.loop-i-test.true

pub feed_outcomes-returns-in_default : goal.feed_outcomes-returns-in_default
feed_outcomes-returns-in_default t c =
    absurd (each.outcome_never c.requires c.outcomes-n.ensures c.loop-i.invariant c.loop-i-test.true
    c.put_outcome.auto.work c.put_outcome.ensures c.in_default.is)

pub feed_outcomes-slice_bounds-feed-count : goal.feed_outcomes-slice_bounds-feed-count
feed_outcomes-slice_bounds-feed-count t c =
    omega (arith, each.wide c.requires c.loop-i.invariant, c.put_outcome.auto.work)

pub feed_outcomes-slice_bounds-feed-start : goal.feed_outcomes-slice_bounds-feed-start
feed_outcomes-slice_bounds-feed-start t c =
    omega (arith, each.wide c.requires c.loop-i.invariant, c.put_outcome.auto.work)

pub feed_outcomes-slice_bounds-feed-end : goal.feed_outcomes-slice_bounds-feed-end
feed_outcomes-slice_bounds-feed-end t c =
    omega (arith, each.wide c.requires c.loop-i.invariant, c.put_outcome.auto.work)

pub feed_outcomes-overflow_sub-o : goal.feed_outcomes-overflow_sub-o
feed_outcomes-overflow_sub-o t c =
    each.outcome_end c.requires c.loop-i.invariant c.put_outcome.auto.work (each.outcome_kept c.requires
    c.outcomes-n.ensures c.loop-i.invariant c.loop-i-test.true c.put_outcome.auto.work c.put_outcome.ensures)
    (each.outcome_ends c.requires c.outcomes-n.ensures c.loop-i.invariant c.loop-i-test.true c.put_outcome.auto.work
    c.put_outcome.ensures) (each.outcome_parts c.requires c.outcomes-n.ensures c.loop-i.invariant c.loop-i-test.true
    c.put_outcome.auto.work c.put_outcome.ensures c.in-Ok.is)

pub feed_outcomes-feed-held-requires : goal.feed_outcomes-feed-held-requires
feed_outcomes-feed-held-requires t c = (
  omega (arith, c.decreases),
  each.outcome_ready c.requires c.loop-i.invariant c.put_outcome.auto.work
      (each.outcome_kept c.requires c.outcomes-n.ensures c.loop-i.invariant c.loop-i-test.true c.put_outcome.auto.work
      c.put_outcome.ensures) (each.outcome_ends c.requires c.outcomes-n.ensures c.loop-i.invariant c.loop-i-test.true
      c.put_outcome.auto.work c.put_outcome.ensures) (each.outcome_parts c.requires c.outcomes-n.ensures
      c.loop-i.invariant c.loop-i-test.true c.put_outcome.auto.work c.put_outcome.ensures c.in-Ok.is),
)

pub feed_outcomes-returns-then-is_large : goal.feed_outcomes-returns-then-is_large
feed_outcomes-returns-then-is_large t c =
    each.unwinding_stop c.requires c.loop-i.invariant c.put_outcome.auto.work (each.outcome_kept c.requires
    c.outcomes-n.ensures c.loop-i.invariant c.loop-i-test.true c.put_outcome.auto.work c.put_outcome.ensures)
    (each.outcome_ends c.requires c.outcomes-n.ensures c.loop-i.invariant c.loop-i-test.true c.put_outcome.auto.work
    c.put_outcome.ensures) (each.outcome_parts c.requires c.outcomes-n.ensures c.loop-i.invariant c.loop-i-test.true
    c.put_outcome.auto.work c.put_outcome.ensures c.in-Ok.is) c.feed-held.auto.tail c.feed-held.ensures _ (sym
    c.is_large.ensures ∙ c.if-is_large.true)

pub feed_outcomes-loop-i-preserved : goal.feed_outcomes-loop-i-preserved
feed_outcomes-loop-i-preserved t c =
    each.unwinding_next c.requires c.loop-i.invariant c.put_outcome.auto.work (each.outcome_kept c.requires
    c.outcomes-n.ensures c.loop-i.invariant c.loop-i-test.true c.put_outcome.auto.work c.put_outcome.ensures)
    (each.outcome_ends c.requires c.outcomes-n.ensures c.loop-i.invariant c.loop-i-test.true c.put_outcome.auto.work
    c.put_outcome.ensures) (each.outcome_parts c.requires c.outcomes-n.ensures c.loop-i.invariant c.loop-i-test.true
    c.put_outcome.auto.work c.put_outcome.ensures c.in-Ok.is) c.feed-held.auto.tail c.feed-held.ensures (sym
    c.is_large.ensures ∙ c.if-is_large.false)

pub feed_outcomes-returns : goal.feed_outcomes-returns
feed_outcomes-returns t c =
    let done : c.outcomes-n.result ≤ c.loop-i.i = omega arith in
    each.outcomes_end c.requires c.outcomes-n.ensures c.loop-i.invariant done

pub feed_projected-project-requires : goal.feed_projected-project-requires
feed_projected-project-requires t c = law.project_ready c.requires

pub feed_projected-returns-in_default : goal.feed_projected-returns-in_default
feed_projected-returns-in_default t c =
    law.project_large c.requires c.project.auto.work c.project.ensures c.in_default.is

pub feed_projected-slice_bounds-feed-count : goal.feed_projected-slice_bounds-feed-count
feed_projected-slice_bounds-feed-count t c = omega (arith, c.requires.next.room, c.project.auto.work)

pub feed_projected-slice_bounds-feed-start : goal.feed_projected-slice_bounds-feed-start
feed_projected-slice_bounds-feed-start t c = omega (arith, c.requires.next.room, c.project.auto.work)

pub feed_projected-slice_bounds-feed-end : goal.feed_projected-slice_bounds-feed-end
feed_projected-slice_bounds-feed-end t c = omega (arith, c.requires.next.room, c.project.auto.work)

pub feed_projected-overflow_sub-o : goal.feed_projected-overflow_sub-o
feed_projected-overflow_sub-o t c = law.project_end c.requires c.project.auto.work c.project.ensures c.in-Ok.is

pub feed_projected-feed-requires : goal.feed_projected-feed-requires
feed_projected-feed-requires t c =
    (omega (arith, c.decreases), law.project_next c.requires c.project.auto.work c.project.ensures c.in-Ok.is)

pub feed_projected-returns : goal.feed_projected-returns
feed_projected-returns t c =
    law.project_fed c.requires c.project.auto.work c.project.ensures c.in-Ok.is c.feed.auto.tail c.feed.ensures

pub feed_unwound-steps-requires : goal.feed_unwound-steps-requires
feed_unwound-steps-requires t c = along_room (each.path_along c.requires)

pub feed_unwound-feed_elements-requires : goal.feed_unwound-feed_elements-requires
feed_unwound-feed_elements-requires t c =
    (omega (arith, c.decreases), (c.requires, sym c.steps.ensures ∙ c.if-steps-eq1.true))

pub feed_unwound-feed_outcomes-requires : goal.feed_unwound-feed_outcomes-requires
feed_unwound-feed_outcomes-requires t c = (omega (arith, c.decreases), c.requires)
