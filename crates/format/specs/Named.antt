-- The limits as the code's record of them: `limits::all` answers this, which ties each constant of the code to its
-- number.
use Rattle.format.specs.declared.limits.Named.{Named}
use Rattle.spec_trees.specs.Limits.{array_max, tree_max, query_max, depth_max, label_max, text_max, path_max, nest_max, stages_max, items_max, members_max, aggregates_max, grouping_max, divisor_max, work_min, positions_min}

abbrev pub named : Named
named = record {
  array = array_max;
  tree = tree_max;
  query = query_max;
  depth = depth_max;
  label = label_max;
  text = text_max;
  path = path_max;
  nest = nest_max;
  stages = stages_max;
  items = items_max;
  members = members_max;
  aggregates = aggregates_max;
  grouping = grouping_max;
  divisor = divisor_max;
  work = work_min;
  positions = positions_min;
}
