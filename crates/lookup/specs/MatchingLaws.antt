-- A lookup's test where the trees stand.
use Rattle.std.specs.Prelude.{List, Bool, ℕ}
use Rattle.areas.specs.declared.span.Span.{Span}
use Rattle.spec_stages.specs.Lookup.{matches}
use Rattle.paths.specs.Walk.{application, EqualPaths}
use Rattle.lookup.specs.Matching.{JoinsIs}

pub joins_is : {q : List ℕ} {own_at theirs_at : Span} {s : List ℕ} {tree_at : Span} {j : List ℕ} {joined_at : Span} {o : Bool}
    → EqualPaths q j (application theirs_at joined_at) s (application own_at tree_at) o → JoinsIs q own_at theirs_at s tree_at j joined_at o
unfolding matches
joins_is k path path2 t u g g2 ot h ou i = k path2 path u t g2 g ou i ot h
