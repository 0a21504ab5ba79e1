-- The proof of finish::finish::accept, by answers to its goals.
use Rattle.std.proofs.Common.{refl, sym, arith, take, length-take-le, ◌+◌}
use Rattle.finish.specs.FinishLaws.{failed_room, held_length, accepted_room, accept_lengths}
use Rattle.finish.proofs.finish.accept.Goals as goal

pub returns-then-res-len : goal.returns-then-res-len
returns-then-res-len c =
    λ ts h ps. failed_room c.args.res.now c.fail.ensures ps refl c.requires.short c.if-res-len.true ts (held_length h)

pub slice_bounds-write_array-end-2 : goal.slice_bounds-write_array-end-2
slice_bounds-write_array-end-2 c =
    sym (length-take-le (c.args.len + 3) c.args.res.now (omega (arith, c.if-res-len.false)))

pub write_array-requires : goal.write_array-requires
write_array-requires c =
    accept_lengths (take (c.args.len + 3) c.args.res.now) c.requires (length-take-le (c.args.len + 3) c.args.res.now
    (omega (arith, c.if-res-len.false)))

pub returns : goal.returns
returns c =
    accepted_room c.args.work.now c.args.len c.args.res.now c.requires.short (omega (arith, c.if-res-len.false))
    c.write_array.ensures
