-- An allowed path is short, and each of its steps is a label. Nothing else of what makes a path allowed is used above.
use Rattle.std.specs.Prelude.{[], ◌∷◌, ℕ, zero, suc, ◌≤◌, ◌<◌, length, get_or, T, leb}
use Rattle.std.proofs.Common.{arith, leb→le}
use Rattle.spec_trees.specs.Lists.{all}
use Rattle.spec_trees.specs.Limits.{path_max}
use Rattle.spec_trees.specs.Tree.{is_label}
use Rattle.spec_trees.specs.OptionLaws.{T_and}
use Rattle.spec_queries.specs.Query.{Path, is_path}
use Rattle.spec_queries.specs.Rules.{OkP}

pub path_labels : (p : Path) → OkP p → T (all is_label p)
unfolding is_path
path_labels p h = (T_and (leb (length p) path_max) (all is_label p) h).1

pub path_short : (p : Path) → OkP p → length p ≤ path_max
unfolding is_path
path_short p h = leb→le (length p) path_max (T_and (leb (length p) path_max) (all is_label p) h).0

each_label : (p : Path) (i : ℕ) → i < length p → T (all is_label p) → T (is_label (get_or p i 0))
unfolding all
each_label [] i l h = absurd (omega arith)
each_label (k ∷ p) zero l h = (T_and (is_label k) (all is_label p) h).0
each_label (k ∷ p) (suc i) l h = each_label p i (omega arith) (T_and (is_label k) (all is_label p) h).1

pub path_label : (p : Path) (i : ℕ) → i < length p → OkP p → T (is_label (get_or p i 0))
path_label p i l h = each_label p i l (path_labels p h)
