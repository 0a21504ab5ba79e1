-- The proof of tracer_tree::values::write_value, by answers to its goals.
use Rattle.tracer_tree.specs.ValuesLaws.{wrote_same, void_bytes, job_bytes, text_bytes, number_bytes_lem}
use Rattle.tracer_tree.proofs.values.write_value.Goals as goal

pub returns-then-value-eq0 : goal.returns-then-value-eq0
returns-then-value-eq0 c = wrote_same (void_bytes c.args.label c.args.value.now c.if-value-eq0.true) c.put_root.ensures

pub returns-then-label-eq-JOB : goal.returns-then-label-eq-JOB
returns-then-label-eq-JOB c =
    wrote_same (job_bytes c.args.label c.args.value.now c.if-value-eq0.false c.if-label-eq-JOB.true)
    c.put_root-then-label-eq-JOB.ensures

pub returns-in_default : goal.returns-in_default
returns-in_default c =
    wrote_same (text_bytes c.args.label c.args.value.now c.if-value-eq0.false c.if-label-eq-JOB.false
    c.read_number.ensures c.in_default.is) c.put_root-in_default.ensures

pub returns : goal.returns
returns c =
    wrote_same (number_bytes_lem c.args.label c.args.value.now c.if-value-eq0.false c.if-label-eq-JOB.false
    c.read_number.ensures c.in-Some.is) c.put_integer.ensures
