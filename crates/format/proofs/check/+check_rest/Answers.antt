-- `check::check_rest`: what holds from a place holds from the start. Depth left falls where a tree's labels are entered.
use Rattle.std.proofs.Common.{rules, sym, ◌∙◌}
use Rattle.format.specs.CheckLaws.{step_on, step_inward, step_done, step_bad, inward_good, inward_bad}
use Rattle.format.proofs.check.+check_rest.Goals as goal

pub loop-next-smaller-in-On : goal.loop-next-smaller-in-On
loop-next-smaller-in-On t c =
    let f = (step_on c.args.left c.args.area.now c.loop-next.p c.args.end c.take_step-s.ensures c.in-On.is) in
    search rules

pub loop-next-preserved-in-On : goal.loop-next-preserved-in-On
loop-next-preserved-in-On t c =
    let f = (step_on c.args.left c.args.area.now c.loop-next.p c.args.end c.take_step-s.ensures c.in-On.is) in
    (f.order, f.within, sym f.same ∙ c.loop-next.invariant.2)

pub overflow_sub-left : goal.overflow_sub-left
overflow_sub-left t c =
    let f = (step_inward c.args.left c.args.area.now c.loop-next.p c.args.end c.take_step-s.ensures c.in-Labels.is) in
    search rules

pub check_rest-requires : goal.check_rest-requires
check_rest-requires t c =
    let f = (step_inward c.args.left c.args.area.now c.loop-next.p c.args.end c.take_step-s.ensures c.in-Labels.is) in
    search rules

pub loop-next-smaller : goal.loop-next-smaller
loop-next-smaller t c =
    let f = (step_inward c.args.left c.args.area.now c.loop-next.p c.args.end c.take_step-s.ensures c.in-Labels.is) in
    search rules

pub loop-next-preserved : goal.loop-next-preserved
loop-next-preserved t c =
    let f = (step_inward c.args.left c.args.area.now c.loop-next.p c.args.end c.take_step-s.ensures c.in-Labels.is) in (
      f.within,
      c.loop-next.invariant.1,
      sym (inward_good f (sym c.check_rest.ensures ∙ c.if-check_rest.true)) ∙
          c.loop-next.invariant.2,
    )

pub returns-else-check_rest : goal.returns-else-check_rest
returns-else-check_rest t c =
    let f = (step_inward c.args.left c.args.area.now c.loop-next.p c.args.end c.take_step-s.ensures c.in-Labels.is) in
    sym (inward_bad f (sym c.check_rest.ensures ∙ c.if-check_rest.false)) ∙ c.loop-next.invariant.2

pub returns-in-Done : goal.returns-in-Done
returns-in-Done t c =
    sym (step_done c.args.left c.args.area.now c.loop-next.p c.args.end c.take_step-s.ensures c.in-Done.is) ∙
    c.loop-next.invariant.2

pub returns-in-Bad : goal.returns-in-Bad
returns-in-Bad t c =
    sym (step_bad c.args.left c.args.area.now c.loop-next.p c.args.end c.take_step-s.ensures c.in-Bad.is) ∙
    c.loop-next.invariant.2
