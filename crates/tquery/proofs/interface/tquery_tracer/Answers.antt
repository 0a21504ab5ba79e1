-- The proof of tquery::interface::tquery_tracer, by answers to its goals.
use Rattle.spec_run.proofs.TracerLaws.{tracer_number, tracer_fitting, traced_by, by_traced}
use Rattle.tquery.specs.InterfaceLaws.{small_short, small_one}
use Rattle.tquery.proofs.interface.tquery_tracer.Goals as goal

pub packed-requires : goal.packed-requires
packed-requires c =
    small_short (tracer_number c.args.message.now c.args.res.now) (tracer_fitting c.args.message.now c.args.res.now).array
    (traced_by c.trace.ensures)

pub returns : goal.returns
returns c =
    by_traced (small_one (tracer_number c.args.message.now c.args.res.now) (tracer_fitting c.args.message.now
    c.args.res.now).array (traced_by c.trace.ensures) c.packed.ensures)
