-- The proof of tquery_cli's main, by answers to its goals.
use Rattle.std.proofs.Common.{sym, length-take-le}
use Rattle.tquery_cli.proofs.main.Goals as goal

pub slice_bounds-write_all-end : goal.slice_bounds-write_all-end
slice_bounds-write_all-end c = sym (length-take-le _ _ c.respond-end.ensures.within)
