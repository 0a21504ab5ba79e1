-- The proof of tracer_lines::places::read_lines, by answers to its goals: the lines before `at` are read and noted.
use Rattle.std.proofs.Common.{arith, sym, subst, ◌∙◌}
use Rattle.tracer_lines.specs.Places.{Reading}
use Rattle.tracer_lines.specs.PlacesLaws.{reading_begins, reading_refused, reading_twice, reading_next, reading_ends}
use Rattle.tracer_lines.proofs.places.read_lines.Goals as goal

pub loop-at-init : goal.loop-at-init
loop-at-init c = reading_begins c.args.message.now c.requires

pub returns-in_default : goal.returns-in_default
returns-in_default c =
    reading_refused c.loop-at.invariant c.loop-at-test.true (c.line_at.ensures.malformed c.in_default.is)

pub label_at-label-requires : goal.label_at-label-requires
label_at-label-requires c = (c.line_at.ensures.at c.in-Some.line c.in-Some.is).name_is

pub returns-then-is_second : goal.returns-then-is_second
returns-then-is_second c =
    reading_twice c.loop-at.invariant (c.line_at.ensures.at c.in-Some.line c.in-Some.is)
    c.label_at-label.ensures.0 c.label_at-label.ensures.1 (sym c.is_second.ensures ∙ c.if-is_second.true)

pub overflow_add-line : goal.overflow_add-line
overflow_add-line c =
    omega (
      arith,
      (c.line_at.ensures.at c.in-Some.line c.in-Some.is).behind,
      (c.line_at.ensures.at c.in-Some.line c.in-Some.is).inside,
    )

pub loop-at-smaller : goal.loop-at-smaller
loop-at-smaller c =
    omega (
      arith,
      (c.line_at.ensures.at c.in-Some.line c.in-Some.is).behind,
      (c.line_at.ensures.at c.in-Some.line c.in-Some.is).inside,
      (c.line_at.ensures.at c.in-Some.line c.in-Some.is).name_is.above,
    )

pub loop-at-preserved : goal.loop-at-preserved
loop-at-preserved c =
    subst (Reading c.args.message.now c.in-Some.line.next) (sym c.note.ensures)
    (reading_next c.loop-at.invariant (c.line_at.ensures.at c.in-Some.line c.in-Some.is)
    c.label_at-label.ensures.0 c.label_at-label.ensures.1 (sym c.is_second.ensures ∙ c.if-is_second.false))

pub returns : goal.returns
returns c = reading_ends c.loop-at.invariant (λ h. omega (arith, h, c.loop-at-test.false))
