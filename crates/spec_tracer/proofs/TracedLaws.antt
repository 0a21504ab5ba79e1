-- What a message becomes is an array within the limits, of at most 1,262 bytes.
use Rattle.std.specs.Prelude.{◌≡◌, refl, List, [], ◌∷◌, map, true, false, ℕ, zero, suc, ◌+◌, ◌*◌, ◌≤◌, ◌<◌, length, T, eqb, leb}
use Rattle.std.proofs.Common.{subst, arith}
use Rattle.std.proofs.Math.Option.{Option, none, some}
use Rattle.std.proofs.Math.Nat.{max-le}
use Rattle.spec_trees.specs.Options.{◌>>=◌, only}
use Rattle.spec_trees.specs.Lists.{all}
use Rattle.spec_trees.specs.Limits.{label_max}
use Rattle.spec_trees.specs.ListLaws.{All-filter}
use Rattle.spec_trees.specs.OptionLaws.{only_some, bind_some, both_true, some_equal, T_true, leb_yes, leb_no}
use Rattle.spec_trees.specs.Tree.{Tree, Trees, Labels, bare, label, trees, is_label}
use Rattle.spec_trees.specs.Bytes.{label_heads, array_bytes}
use Rattle.spec_trees.specs.Size.{root_size, size, size_a, size_l, depth, depth_a, depth_l, array_size}
use Rattle.spec_trees.specs.Readers.{accepted}
use Rattle.spec_trees.specs.Decode.{read_array}
use Rattle.spec_trees.specs.Within.{OkA, OkL, Within}
use Rattle.spec_trees.proofs.ArrayLaws.{array_back, read_array_lem}
use Rattle.spec_tracer.specs.Limits.{message_max}
use Rattle.spec_tracer.specs.Message.{is_value, Line, is_line}
use Rattle.spec_tracer.specs.Reading.{message}
use Rattle.spec_tracer.specs.Values.{value_tree}
use Rattle.spec_tracer.specs.Traced.{label_named, lines_for, once, labelled, labels_from, message_tree, traced}
use Rattle.spec_tracer.specs.LineLaws.{line_formed}
use Rattle.spec_tracer.specs.MessageLaws.{InForm, message_formed}
use Rattle.spec_tracer.proofs.ValueLaws.{value_bare}

-- ---- what a message is read as
pub record Tracing (m : List ℕ) (t : Tree) : Type 0 where
  pub lines : List Line
  pub read : message m ≡ some lines
  pub single : once lines ≡ true
  pub tree : message_tree lines ≡ t

pub traced_from : (m : List ℕ) (t : Tree) → traced m ≡ some t → Tracing m t
unfolding traced
traced_from m t e =
    let (a, e1) = only_some (leb (length m) message_max) _ e in
    let (ls, e2, e3) = bind_some _ (message m) e1 in
    let (b, e4) = only_some (once ls) (some (message_tree ls)) e3 in
    record { lines = ls; read = e2; single = T_true (once ls) b; tree = some_equal (message_tree ls) t e4 }

-- ---- and what it becomes, by its length and its lines
pub traced_is : (m : List ℕ) (ls : List Line) → length m ≤ message_max → message m ≡ some ls → once ls ≡ true → traced m ≡ some (message_tree ls)
unfolding traced only ◌>>=◌
traced_is m ls h e f = rw (leb_yes (length m) message_max h, e, f) refl

pub traced_long : (m : List ℕ) → message_max < length m → traced m ≡ none
unfolding traced only
traced_long m h = rw (leb_no (length m) message_max h) refl

-- out of form, or one of the seven names twice
pub traced_not : (m : List ℕ) → length m ≤ message_max → ((ls : List Line) → message m ≡ some ls → once ls ≡ false) → traced m ≡ none
unfolding traced only ◌>>=◌
traced_not m h k = rw (leb_yes (length m) message_max h) (go (message m) k)
  where
    go : (x : Option (List Line)) → ((ls : List Line) → x ≡ some ls → once ls ≡ false) → (x >>= λ ls. only (once ls) (some (message_tree ls))) ≡ none
    go none f = refl
    go (some ls) f = rw (f ls refl) refl

-- ---- the trees of a label's values
record Array (n : ℕ) (a : Trees) : Type 0 where
  ok : OkA a
  short : size_a a ≤ n * 86
  flat : depth_a a ≤ 1

values_array : (k : ℕ) (vs : List (List ℕ)) → all is_value vs ≡ true → Array (length vs) (trees (map (value_tree k) vs))
unfolding all size_a depth_a
values_array k [] h = record { ok = tt; short = omega arith; flat = omega arith }
values_array k (v ∷ vs) h =
    let p = both_true (is_value v) (all is_value vs) h in
    let b = value_bare k v p.0 in
    let r = values_array k vs p.1 in
    record { ok = (b.ok, r.ok); short = omega (arith, b.short, r.short); flat = max-le b.flat r.flat }

-- ---- labels: n from k on, each with at most two values, above j
record Rising (n j : ℕ) (ls : Labels) : Type 0 where
  ok : OkL ls j
  short : size_l ls ≤ n * 179
  flat : depth_l ls ≤ 1

rising_more : (n i j : ℕ) (ls : Labels) → i ≤ j → Rising n j ls → Rising (suc n) i ls
rising_more n i j bare l h = record { ok = tt; short = omega (arith, h.short); flat = h.flat }
rising_more n i j (label k a ls) l h = record { ok = (omega (arith, h.ok.0), h.ok.1, h.ok.2, h.ok.3); short = omega (arith, h.short); flat = h.flat }

is_label_lem : (k : ℕ) → 1 ≤ k → k ≤ label_max → T (is_label k)
unfolding is_label
is_label_lem k a b = rw (leb_yes 1 k a, leb_yes k label_max b) tt

label_next : (n j k : ℕ) (xs : List Line) (rest : Labels) → j < k → 1 ≤ k → k ≤ label_max → InForm xs → Rising n k rest → Rising (suc n) j (labelled k xs rest)
unfolding labelled size_l depth_l label_heads
label_next n j k [] rest l a b f h = rising_more n j k rest (omega (arith, l)) h
label_next n j k (x ∷ xs) rest l a b f h =
    let q = line_formed x f.0 in
    let r = values_array k x.1 q.valued in
    record {
      ok = (l, is_label_lem k a b, r.ok, h.ok);
      short = omega (arith, r.short, q.most, h.short);
      flat = max-le r.flat h.flat;
    }

labels_rising : (n k j : ℕ) (ls : List Line) → j < k → 1 ≤ k → k + n ≤ suc label_max → InForm ls → Rising n j (labels_from k n ls)
unfolding labels_from size_l depth_l lines_for
labels_rising zero k j ls l a b f = record { ok = tt; short = omega arith; flat = omega arith }
labels_rising (suc n) k j ls l a b f = label_next n j k (lines_for k ls) (labels_from (suc k) n ls) l a (omega (arith, b))
    (All-filter (λ x. is_line x ≡ true) (λ x. eqb (label_named x.0) k) ls f)
    (labels_rising n (suc k) k ls (omega arith) (omega arith) (omega (arith, b)) f)

-- ---- the tree, and its array

-- seven labels, each with two texts of 80 bytes, make the longest
abbrev pub traced_max : ℕ
traced_max = 1262

pub traced_size : (m : List ℕ) (t : Tree) → traced m ≡ some t → array_size (t ∷ []) ≤ traced_max
unfolding array_size size size_a message_tree root_size
traced_size m t e =
    let r = traced_from m t e in
    let h = labels_rising 7 1 0 r.lines (omega arith) (omega arith) (omega arith) (message_formed m r.lines r.read) in
    subst (λ x. array_size (x ∷ []) ≤ traced_max) r.tree (omega (arith, h.short))

-- what is traced is within the limits
pub traced_within : (m : List ℕ) (t : Tree) → traced m ≡ some t → Within (t ∷ [])
unfolding array_size size size_a depth message_tree root_size
traced_within m t e =
    let r = traced_from m t e in
    let h = labels_rising 7 1 0 r.lines (omega arith) (omega arith) (omega arith) (message_formed m r.lines r.read) in
    subst (λ x. Within (x ∷ [])) r.tree record {
      allowed = (record { ok = (tt, h.ok); small = omega (arith, h.short); shallow = omega (arith, h.flat) }, tt);
      small = omega (arith, h.short);
    }

-- so its bytes are an array that is accepted, and that array is this tree alone
pub traced_accepted : (m : List ℕ) (t : Tree) → traced m ≡ some t → read_array (array_bytes (t ∷ [])) ≡ accepted (t ∷ [])
traced_accepted m t e = (read_array_lem (array_bytes (t ∷ [])) (t ∷ [])).1 (array_back (t ∷ []) (traced_within m t e))
