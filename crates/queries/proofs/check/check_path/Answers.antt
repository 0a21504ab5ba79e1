-- `check::check_path`: not too many steps, and each a label.
use Rattle.std.proofs.Common.{arith, rules, tests, ◌≡◌, ◌∙◌, refl, ◌-◌}
use Rattle.std.proofs.lemmas.Iterator.{YieldsList-from_range}
use Rattle.std.proofs.lemmas.Iterator.Search.{all_from_yields_List}
use Rattle.spec_trees.specs.Tree.{is_label}
use Rattle.queries.specs.Steps.{step_in}
use Rattle.queries.specs.CheckLaws.{path_long, path_labels}
use Rattle.queries.proofs.check.check_path.Goals as goal

pub returns-then-steps-le-PATH : goal.returns-then-steps-le-PATH
returns-then-steps-le-PATH c =
    let q : c.count_in-steps.result ≡ c.args.content.to - c.args.content.from = c.count_in-steps.ensures in
    all_from_yields_List (λ k. is_label (step_in c.args.area.now c.args.content.from k)) _ _ _ c.all.ensures.ran
    (YieldsList-from_range 0 _ _ refl (omega arith)) (λ x b q k. search (rules, tests))
    ∙ path_labels c.args.area.now c.args.content.from c.args.content.to c.requires.1 c.requires.0 (omega arith)

pub returns-else-steps-le-PATH : goal.returns-else-steps-le-PATH
returns-else-steps-le-PATH c =
    let e = path_long c.args.area.now c.args.content.from c.args.content.to c.requires.1 (omega arith) in
    search rules
