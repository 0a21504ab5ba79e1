-- The proof of compare::words::compare_words, by answers to its goals: from i on all is the same, and i is a multiple of 8.
use Rattle.std.proofs.Common.{arith, ap, sym, ◌∙◌, ◌-◌, ◌<◌}
use Rattle.spec_trees.specs.ListLaws.{All-of}
use Rattle.compare.specs.Compare.{low_at}
use Rattle.compare.specs.CompareLaws.{word_compared, all_compared, told_apart}
use Rattle.compare.proofs.words.compare_words.Goals as goal

pub returns-then-word : goal.returns-then-word
returns-then-word c =
    told_apart c.loop-i.invariant.0 (omega (arith, c.loop-i-test.true)) (λ e. c.if-word.true (c.word.ensures ∙ ap (λ l.
    low_at 8 l (c.loop-i.i - 8)) e ∙ sym c.word-in-loop-i.ensures))

pub loop-i-smaller : goal.loop-i-smaller
loop-i-smaller c = omega (arith, c.loop-i-test.true)

pub loop-i-preserved : goal.loop-i-preserved
loop-i-preserved c = (
  word_compared c.loop-i.invariant.0 (c.loop-i.i - 8) (omega (arith, c.loop-i-test.true)) (All-of (λ x. x < 256) 0
      c.args.one.now (λ k l. omega (arith, c.shared_slice_known-1.given k))) (All-of (λ x. x < 256) 0 c.args.other.now (λ
      k l. omega (arith, c.shared_slice_known-2-1.given k))) (sym c.word.ensures ∙ c.if-word.false ∙
      c.word-in-loop-i.ensures),
  omega (arith, c.loop-i.invariant.1, c.loop-i-test.true),
)

pub returns : goal.returns
returns c = all_compared c.loop-i.invariant.0 c.loop-i.invariant.1 c.loop-i-test.false
