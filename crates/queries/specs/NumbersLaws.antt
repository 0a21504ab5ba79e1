-- A kind's number says what the kind says.
use Rattle.std.specs.Prelude.{◌≡◌, List, [], ◌∷◌, ℕ, zero, suc, get_or, map}
use Rattle.std.proofs.Math.Path.{refl}
use Rattle.queries.specs.declared.table.Kind.{Kind}
use Rattle.queries.specs.Table.{no_tags, child_by}
use Rattle.queries.specs.Numbers.{numbered, kind_of, kind_at}

-- ---- by the kind
child_numbered : (ks : List Kind) (k : ℕ) → get_or (map child_by ks) k no_tags ≡ child_by (get_or ks k Kind.Nothing)
unfolding child_by
child_numbered [] k = refl
child_numbered (x ∷ ks) zero = refl
child_numbered (x ∷ ks) (suc k) = child_numbered ks k

pub kind_numbered : (k : ℕ) → kind_at k ≡ child_by (kind_of k)
unfolding kind_at kind_of child_by
kind_numbered k = child_numbered numbered k
