-- The proof of tracer_lines::bytes::piece_end, by answers to its goals.
use Rattle.std.proofs.Common.{rules, length}
use borrow.Author.Tests.{tests}
use Rattle.std.proofs.lemmas.Iterator.{YieldsList-from_slice}
use Rattle.std.proofs.lemmas.Iterator.Search.{YieldsList-from_take_while}
use Rattle.std.proofs.lemmas.Iterator.Consumers.{count_from_yields_List}
use Rattle.tracer_lines.specs.Piece.{part}
use Rattle.tracer_lines.specs.PieceLaws.{piece_counted}
use Rattle.tracer_lines.proofs.bytes.piece_end.Goals as goal

pub returns : goal.returns
returns g c = λ kind tells.
    piece_counted kind c.args.bytes.now c.args.from (count_from_yields_List c.take_while.result _ c.count.ensures.ran
    (YieldsList-from_take_while _ kind (YieldsList-from_slice (part c.args.from (length c.args.bytes.now) c.args.bytes.now) (cc)) c.take_while.ensures.closure c.take_while.ensures.done
    (λ x b q k. search (rules, tests))))
