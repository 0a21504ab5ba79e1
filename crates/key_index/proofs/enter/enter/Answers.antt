-- The proof of key_index::enter::enter, by answers to its goals.
use Rattle.std.proofs.Common.{arith, refl, ap, ◌∙◌}
use Rattle.areas.specs.Number.{two_at}
use Rattle.key_index.specs.Index.{base}
use Rattle.areas.specs.NumberLaws.{put}
use Rattle.key_index.specs.SearchLaws.{places}
use Rattle.key_index.specs.EnteringLaws as law
use Rattle.key_index.proofs.enter.enter.Goals as goal

pub last_like-like-requires : goal.last_like-like-requires
last_like-like-requires c =
    (record {
      entering = c.requires;
      last_is = c.two_at-last.ensures.0 ∙ ap (two_at c.args.work.now)
          (c.head_of-head.ensures.2 c.requires.grouping c.requires.tree c.requires.grouping_is c.requires.tree_is);
    })

pub mark_of-mark-requires : goal.mark_of-mark-requires
mark_of-mark-requires c = (
  record { value = c.requires.grouping; allowed = c.requires.few; value_is = c.requires.grouping_is },
  record {
    value = c.requires.tree;
    value_is = c.requires.tree_is;
  },
)

pub put_two-requires-4 : goal.put_two-requires-4
put_two-requires-4 c = (
  omega (
    arith,
    (places c.requires),
    c.head_of-head.ensures.1,
    c.put_two.auto.work,
    c.put_two-2.auto.work,
    c.put_two-3.auto.work,
  ),
  omega (arith, (places c.requires)),
)

pub link-requires : goal.link-requires
link-requires c = (
  omega (
    arith,
    (places c.requires),
    c.put_two.auto.work,
    c.put_two-2.auto.work,
    c.put_two-3.auto.work,
    c.put_two-4.auto.work,
  ),
  law.found_places c.requires (c.last_like-like.ensures (record {
    entering = c.requires;
    last_is = c.two_at-last.ensures.0 ∙ ap (two_at c.args.work.now) (c.head_of-head.ensures.2 c.requires.grouping
        c.requires.tree c.requires.grouping_is c.requires.tree_is);
  })),
  omega (arith, (places c.requires)),
)

pub count-requires : goal.count-requires
count-requires c = (
  omega (
    arith,
    (places c.requires),
    c.put_two.auto.work,
    c.put_two-2.auto.work,
    c.put_two-3.auto.work,
    c.put_two-4.auto.work,
    c.link.auto.work,
  ),
  law.count_small c.requires (c.head_of-head.ensures.2 c.requires.grouping
      c.requires.tree c.requires.grouping_is c.requires.tree_is) c.two_at-last.ensures.0 refl (c.mark_of-mark.ensures.1
      c.requires.grouping c.requires.tree c.requires.grouping_is c.requires.tree_is _ (c.last_like-like.ensures (record {
        entering = c.requires;
        last_is = c.two_at-last.ensures.0 ∙ ap (two_at c.args.work.now) (c.head_of-head.ensures.2
            c.requires.grouping c.requires.tree c.requires.grouping_is c.requires.tree_is);
      }))) (put {n = c.two_at-last.result}
      (omega (arith, (places c.requires))) c.put_two.ensures) (put {n = 0} (omega (
        arith,
        (places c.requires),
        c.put_two.auto.work,
      )) c.put_two-2.ensures) (put {n = c.mark_of-mark.result} (omega (
        arith,
        (places c.requires),
        c.put_two.auto.work,
        c.put_two-2.auto.work,
      )) c.put_two-3.ensures) (put {n = c.args.tree.from} (omega (
        arith,
        (places
            c.requires),
        c.head_of-head.ensures.1,
        c.put_two.auto.work,
        c.put_two-2.auto.work,
        c.put_two-3.auto.work,
      ))
      c.put_two-4.ensures) (c.link.ensures _ (c.last_like-like.ensures (record {
        entering = c.requires;
        last_is = c.two_at-last.ensures.0 ∙ ap (two_at c.args.work.now) (c.head_of-head.ensures.2
            c.requires.grouping c.requires.tree c.requires.grouping_is c.requires.tree_is);
      }))),
)

pub returns : goal.returns
returns c =
    law.enters (c.count.ensures.beyond ∙ (c.link.ensures _ (c.last_like-like.ensures (record {
      entering = c.requires;
      last_is = c.two_at-last.ensures.0 ∙ ap (two_at c.args.work.now) (c.head_of-head.ensures.2
          c.requires.grouping c.requires.tree c.requires.grouping_is c.requires.tree_is);
    }))).beyond ∙ (put {n = c.args.tree.from} (omega (
      arith,
      (places
          c.requires),
      c.head_of-head.ensures.1,
      c.put_two.auto.work,
      c.put_two-2.auto.work,
      c.put_two-3.auto.work,
    ))
    c.put_two-4.ensures).beyond base (omega (arith, c.head_of-head.ensures.1)) ∙ (put {n = c.mark_of-mark.result} (omega
    (arith, (places c.requires), c.put_two.auto.work, c.put_two-2.auto.work)) c.put_two-3.ensures).beyond base (omega
    (arith, (places c.requires))) ∙ (put {n = 0} (omega (arith, (places c.requires), c.put_two.auto.work))
    c.put_two-2.ensures).beyond base (omega (arith, (places c.requires))) ∙ (put {n = c.two_at-last.result} (omega
    (arith, (places c.requires))) c.put_two.ensures).beyond base (omega (arith, (places c.requires)))) (λ e. let h =
    c.head_of-head.ensures.2 e.grouping e.tree e.grouping_is e.tree_is in let l = c.two_at-last.ensures.0 in let n = (c.last_like-like.ensures (record {
      entering = e;
      last_is = l ∙ ap (two_at c.args.work.now) h;
    })) in
    law.index_grown e h l refl (c.mark_of-mark.ensures.1 e.grouping e.tree e.grouping_is e.tree_is _ n) (put {n = c.two_at-last.result} (omega
    (arith, (places c.requires))) c.put_two.ensures) (put {n = 0} (omega (
      arith,
      (places c.requires),
      c.put_two.auto.work,
    )) c.put_two-2.ensures) (put {n = c.mark_of-mark.result} (omega (
      arith,
      (places c.requires),
      c.put_two.auto.work,
      c.put_two-2.auto.work,
    )) c.put_two-3.ensures) (put {n = c.args.tree.from} (omega (
      arith,
      (places
          c.requires),
      c.head_of-head.ensures.1,
      c.put_two.auto.work,
      c.put_two-2.auto.work,
      c.put_two-3.auto.work,
    ))
    c.put_two-4.ensures) (c.link.ensures _ n) c.count.ensures)
