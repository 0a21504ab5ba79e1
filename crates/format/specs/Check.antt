-- What a check of bytes comes to: whether the readers of `Decode` read them, as a test.
use Rattle.std.specs.Prelude.{◌≡◌, List, Bool, true, false, ◌&&◌, ℕ, ◌+◌, ◌-◌, ◌≤◌, ◌<◌, ltb, Result, Some, Ok, Err}
use Rattle.std.proofs.Math.Seq.{slice}
use Rattle.spec_trees.specs.Options.{maybe, some?}
use Rattle.spec_trees.specs.Lists.{each}
use Rattle.spec_trees.specs.Bytes.{Field}
use Rattle.spec_trees.specs.Readers.{inside, one, Tested, accepted, overlong, malformed}
use Rattle.spec_trees.specs.Decode.{root_r, array_with, label_r, labels_with, tree_r, array_r}
use Rattle.areas.specs.declared.span.Span.{Span}
use Rattle.format.specs.declared.check.Place.{Place}
use Rattle.format.specs.declared.check.Step.{Step}
use Rattle.format.specs.declared.check.Step.TheVariants.{On, Labels, Done, Bad}
use Rattle.format.specs.Head.{field_at, head_at}
use Rattle.format.specs.declared.check.Fault.{Fault}
use Rattle.format.specs.declared.check.Fault.TheVariants.{Overlong, Malformed}

-- ---- fields
-- a root field
unfoldable pub root_ok : Field → Bool
root_ok f = some? (root_r f)

-- a tree field where d levels of trees may stand
unfoldable pub tree_ok : ℕ → Field → Bool
tree_ok d f = some? (tree_r d f)

-- an array field whose trees may stand in d levels
unfoldable pub array_ok : ℕ → Field → Bool
array_ok d f = some? (array_with (tree_r d) f)

-- a label field with a label above k
unfoldable pub label_ok : ℕ → ℕ → Field → Bool
label_ok d k f = maybe false (λ l. ltb k l.0) (label_r (tree_r d) f)

-- ---- bytes
-- tree fields
unfoldable pub trees_ok : ℕ → List ℕ → Bool
trees_ok d b = some? (inside (each (tree_r d)) b)

-- label fields with rising labels, all above k
unfoldable pub labels_ok : ℕ → ℕ → List ℕ → Bool
labels_ok d k b = some? (inside (labels_with (tree_r d) k) b)

-- one array field that spans the bytes
unfoldable pub input_ok : List ℕ → Bool
input_ok b = some? (inside (one (λ a. a) array_r) b)

-- ---- the walk
abbrev pub place : ℕ → ℕ → ℕ → Place
place a e k = record { at = a; stop = e; last = k }

-- what is left at a place: trees, and behind them labels up to `end`, where d levels of trees may stand
unfoldable pub rest_ok : ℕ → List ℕ → Place → ℕ → Bool
rest_ok d s p end = trees_ok d (slice p.at p.stop s) && labels_ok d p.last (slice p.stop end s)

-- a step from p on to q
pub record Onward (d : ℕ) (s : List ℕ) (p : Place) (end : ℕ) (q : Place) : Type 0 where
  pub rises : p.at < q.at
  pub order : q.at ≤ q.stop
  pub within : q.stop ≤ end
  pub same : rest_ok d s p end ≡ rest_ok d s q end

-- a tree at p whose labels stand at l
pub record Inward (d : ℕ) (s : List ℕ) (p : Place) (end : ℕ) (l : Span) : Type 0 where
  pub deep : 0 < d
  pub rises : p.at < l.to
  pub order : l.from ≤ l.to
  pub within : l.to ≤ p.stop
  pub same : rest_ok d s p end ≡ rest_ok (d - 1) s (place l.from l.from 0) l.to && rest_ok d s (place l.to p.stop p.last) end

-- what a step's answer says
abbrev pub Stepped : ℕ → List ℕ → Place → ℕ → Step → Type 0
Stepped d s p end (On q) = Onward d s p end q
Stepped d s p end (Labels l) = Inward d s p end l
Stepped d s p end Done = rest_ok d s p end ≡ true
Stepped d s p end Bad = rest_ok d s p end ≡ false

-- of a tree, wherever a tree may stand; and of a label, at any depth
abbrev pub Passes : List ℕ → Place → Step → Type 0
Passes s p r = (d end : ℕ) → 0 < d → p.stop ≤ end → Stepped d s p end r

abbrev pub Enters : List ℕ → Place → ℕ → Step → Type 0
Enters s p end r = (d : ℕ) → Stepped d s p end r

-- a tree without labels, by its heads
pub record BareAt (s : List ℕ) (at stop tag len : ℕ) : Type 0 where
  pub small : len < 253
  pub ends : at + (6 + len) ≤ stop
  pub tree : head_at s at stop ≡ Some (field_at 2 (at + 3) (at + (6 + len)))
  pub root : head_at s (at + 3) (at + (6 + len)) ≡ Some (field_at tag (at + 6) (at + (6 + len)))

-- ---- the answer of a public check of a lent piece, an array or a query
abbrev pub check_of : {A : Type 0} → Tested A → Result Unit Fault
check_of (accepted a) = Ok tt
check_of overlong = Err Overlong
check_of malformed = Err Malformed
