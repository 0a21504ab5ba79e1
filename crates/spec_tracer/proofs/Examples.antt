-- Values and messages, computed from the definitions.
use Rattle.std.specs.Prelude.{◌≡◌, refl, List, [], ◌∷◌, ◌++◌, ℕ, length, replicate, pos, negsuc}
use Rattle.std.proofs.Math.Option.{Option, none, some}
use Rattle.spec_trees.specs.Options.{◌>>=◌, only, maybe, some?}
use Rattle.spec_trees.specs.Lists.{filter, all, gather, same_bytes}
use Rattle.spec_trees.specs.Tree.{Root, void, integer, text, Tree, node, bare, bare_void}
use Rattle.spec_trees.specs.Bytes.{array_bytes}
use Rattle.spec_trees.specs.Examples.{decoded, #, ⟨◌⟩, ◌⇒◌⨾◌}
use Rattle.spec_tracer.specs.Limits.{message_max}
use Rattle.spec_tracer.specs.Message.{is_capital, is_digit, is_name_byte, is_value_byte, begins, is_name, is_value, front, behind}
use Rattle.spec_tracer.specs.Reading.{piece, expect, name, value, second, values, line, lines, message}
use Rattle.spec_tracer.specs.Values.{digit, decimal, parts, fraction, amount, hundredths, value_root, value_tree}
use Rattle.spec_tracer.specs.Traced.{names, label_among, label_named, lines_for, once_from, once, labelled, labels_from, message_tree, traced}
use Rattle.spec_tracer.proofs.TracedLaws.{traced_max}

-- under these names all definitions compute
unfoldable abbrev pub root_of : ℕ → List ℕ → Root
unfolding is_digit front behind digit decimal parts fraction amount hundredths value_root ◌>>=◌ only maybe
root_of k v = value_root k v

unfoldable abbrev pub becomes : List ℕ → Option Tree
unfolding decoded root_of ◌>>=◌ only maybe some? filter all same_bytes is_capital is_digit is_name_byte is_value_byte begins is_name is_value front behind piece expect name value second values line lines message digit decimal parts fraction amount hundredths value_root value_tree label_among label_named lines_for once_from once labelled labels_from message_tree traced
becomes m = traced m

-- ---- values: a label, the value, its root
abbrev ValueRow : Type 0
ValueRow = ℕ × List ℕ × Root

abbrev ValuesHold : List ValueRow → Type 0
ValuesHold [] = Unit {0}
ValuesHold (r ∷ rs) = (root_of r.0 r.1 ≡ r.2) × ValuesHold rs

abbrev value_rows : List ValueRow
value_rows =
    -- nothing
    (2, [], void)
    -- 5
    ∷ (2, 53 ∷ [], integer (pos 500))
    -- -5
    ∷ (2, 45 ∷ 53 ∷ [], integer (negsuc 499))
    -- -0
    ∷ (2, 45 ∷ 48 ∷ [], integer (pos 0))
    -- 1.5
    ∷ (2, 49 ∷ 46 ∷ 53 ∷ [], integer (pos 150))
    -- 1.05
    ∷ (2, 49 ∷ 46 ∷ 48 ∷ 53 ∷ [], integer (pos 105))
    -- 999999.99
    ∷ (2, 57 ∷ 57 ∷ 57 ∷ 57 ∷ 57 ∷ 57 ∷ 46 ∷ 57 ∷ 57 ∷ [], integer (pos 99999999))
    -- -999999.99
    ∷ (2, 45 ∷ 57 ∷ 57 ∷ 57 ∷ 57 ∷ 57 ∷ 57 ∷ 46 ∷ 57 ∷ 57 ∷ [], integer (negsuc 99999998))
    -- 007
    ∷ (2, 48 ∷ 48 ∷ 55 ∷ [], integer (pos 700))
    -- -0.01
    ∷ (2, 45 ∷ 48 ∷ 46 ∷ 48 ∷ 49 ∷ [], integer (negsuc 0))
    -- 1.
    ∷ (2, 49 ∷ 46 ∷ [], text (49 ∷ 46 ∷ []))
    -- .5
    ∷ (2, 46 ∷ 53 ∷ [], text (46 ∷ 53 ∷ []))
    -- -
    ∷ (2, 45 ∷ [], text (45 ∷ []))
    -- +1
    ∷ (2, 43 ∷ 49 ∷ [], text (43 ∷ 49 ∷ []))
    -- 1.234
    ∷ (2, 49 ∷ 46 ∷ 50 ∷ 51 ∷ 52 ∷ [], text (49 ∷ 46 ∷ 50 ∷ 51 ∷ 52 ∷ []))
    -- 1234567
    ∷ (2, 49 ∷ 50 ∷ 51 ∷ 52 ∷ 53 ∷ 54 ∷ 55 ∷ [], text (49 ∷ 50 ∷ 51 ∷ 52 ∷ 53 ∷ 54 ∷ 55 ∷ []))
    --  5
    ∷ (2, 32 ∷ 53 ∷ [], text (32 ∷ 53 ∷ []))
    -- 5
    ∷ (2, 53 ∷ 32 ∷ [], text (53 ∷ 32 ∷ []))
    -- --1
    ∷ (2, 45 ∷ 45 ∷ 49 ∷ [], text (45 ∷ 45 ∷ 49 ∷ []))
    -- 1,5
    ∷ (2, 49 ∷ 44 ∷ 53 ∷ [], text (49 ∷ 44 ∷ 53 ∷ []))
    -- -.5
    ∷ (2, 45 ∷ 46 ∷ 53 ∷ [], text (45 ∷ 46 ∷ 53 ∷ []))
    -- 1=2
    ∷ (2, 49 ∷ 61 ∷ 50 ∷ [], text (49 ∷ 61 ∷ 50 ∷ []))
    -- 1.x
    ∷ (2, 49 ∷ 46 ∷ 120 ∷ [], text (49 ∷ 46 ∷ 120 ∷ []))
    -- JOB: nothing
    ∷ (1, [], void)
    -- JOB: 12
    ∷ (1, 49 ∷ 50 ∷ [], text (49 ∷ 50 ∷ []))
    -- JOB: -0.5
    ∷ (1, 45 ∷ 48 ∷ 46 ∷ 53 ∷ [], text (45 ∷ 48 ∷ 46 ∷ 53 ∷ []))
    ∷ []

pub values_hold : ValuesHold value_rows
unfolding root_of
values_hold =
    (refl, (refl, (refl, (refl, (refl, (refl, (refl, (refl, (refl, (refl, (refl, (refl, (refl, (refl, (refl, (refl, (refl, (refl, (refl, (refl, (refl, (refl, (refl, (refl, (refl, (refl, tt))))))))))))))))))))))))))

-- ---- messages, and what they become
abbrev MessageRow : Type 0
MessageRow = List ℕ × Option Tree

abbrev MessagesHold : List MessageRow → Type 0
MessagesHold [] = Unit {0}
MessagesHold (r ∷ rs) = (becomes r.0 ≡ r.1) × MessagesHold rs

abbrev message_rows : List MessageRow
message_rows =
    -- nothing
    ([], some bare_void)
    -- a line of another name
    ∷ (65 ∷ 61 ∷ 49 ∷ 13 ∷ 10 ∷ [], some bare_void)
    -- other names may come twice
    ∷ (65 ∷ 49 ∷ 66 ∷ 50 ∷ 67 ∷ 51 ∷ 68 ∷ 52 ∷ 61 ∷ 59 ∷ 13 ∷ 10 ∷ 65 ∷ 49 ∷ 66 ∷ 50 ∷ 67 ∷ 51 ∷ 68 ∷ 52 ∷ 61 ∷ 120 ∷ 61 ∷ 121 ∷ 13 ∷ 10 ∷ [], some bare_void)
    -- whole names are compared: DOX, DO1 and D are others
    ∷ (68 ∷ 79 ∷ 88 ∷ 61 ∷ 49 ∷ 13 ∷ 10 ∷ 68 ∷ 79 ∷ 49 ∷ 61 ∷ 49 ∷ 13 ∷ 10 ∷ 68 ∷ 61 ∷ 49 ∷ 13 ∷ 10 ∷ [], some bare_void)
    -- all seven, in another order, and others between them
    ∷ (68 ∷ 79 ∷ 61 ∷ 65 ∷ 13 ∷ 10 ∷ 73 ∷ 80 ∷ 68 ∷ 61 ∷ 51 ∷ 49 ∷ 46 ∷ 53 ∷ 59 ∷ 51 ∷ 50 ∷ 13 ∷ 10 ∷ 70 ∷ 69 ∷ 68 ∷ 61 ∷ 45 ∷ 48 ∷ 13 ∷ 10 ∷ 76 ∷ 77 ∷ 65 ∷ 84 ∷ 73 ∷ 68 ∷ 61 ∷ 49 ∷ 59 ∷ 50 ∷ 13 ∷ 10 ∷ 86 ∷ 66 ∷ 79 ∷ 88 ∷ 61 ∷ 59 ∷ 13 ∷ 10 ∷ 72 ∷ 66 ∷ 79 ∷ 88 ∷ 61 ∷ 53 ∷ 59 ∷ 13 ∷ 10 ∷ 68 ∷ 66 ∷ 76 ∷ 61 ∷ 49 ∷ 46 ∷ 48 ∷ 53 ∷ 13 ∷ 10 ∷ 74 ∷ 79 ∷ 66 ∷ 61 ∷ 49 ∷ 50 ∷ 13 ∷ 10 ∷ [], some ⟨ 1 ⇒ node (text (49 ∷ 50 ∷ [])) bare ∷ [] ⨾ 2 ⇒ # 105 ∷ [] ⨾ 3 ⇒ # 500 ∷ bare_void ∷ [] ⨾ 4 ⇒ bare_void ∷ bare_void ∷ [] ⨾ 5 ⇒ # 0 ∷ [] ⨾ 6 ⇒ # 3150 ∷ # 3200 ∷ [] ⨾ 7 ⇒ node (text (65 ∷ [])) bare ∷ [] ⨾ bare ⟩)
    -- JOB with nothing is void
    ∷ (74 ∷ 79 ∷ 66 ∷ 61 ∷ 13 ∷ 10 ∷ [], some ⟨ 1 ⇒ bare_void ∷ [] ⨾ bare ⟩)
    -- the first equals sign ends the name
    ∷ (68 ∷ 79 ∷ 61 ∷ 97 ∷ 61 ∷ 98 ∷ 13 ∷ 10 ∷ [], some ⟨ 7 ⇒ node (text (97 ∷ 61 ∷ 98 ∷ [])) bare ∷ [] ⨾ bare ⟩)
    -- one of the seven twice
    ∷ (68 ∷ 79 ∷ 61 ∷ 49 ∷ 13 ∷ 10 ∷ 65 ∷ 61 ∷ 49 ∷ 13 ∷ 10 ∷ 68 ∷ 79 ∷ 61 ∷ 49 ∷ 13 ∷ 10 ∷ [], none)
    -- no end; half an end; another end
    ∷ (68 ∷ 79 ∷ 61 ∷ 49 ∷ [], none)
    ∷ (68 ∷ 79 ∷ 61 ∷ 49 ∷ 13 ∷ [], none)
    ∷ (68 ∷ 79 ∷ 61 ∷ 49 ∷ 10 ∷ [], none)
    ∷ (68 ∷ 79 ∷ 61 ∷ 49 ∷ 13 ∷ 13 ∷ 10 ∷ [], none)
    -- an empty line
    ∷ (68 ∷ 79 ∷ 61 ∷ 49 ∷ 13 ∷ 10 ∷ 13 ∷ 10 ∷ [], none)
    -- no equals sign; no name
    ∷ (68 ∷ 79 ∷ 13 ∷ 10 ∷ [], none)
    ∷ (61 ∷ 49 ∷ 13 ∷ 10 ∷ [], none)
    -- names: a digit first, a small letter, nine bytes
    ∷ (49 ∷ 65 ∷ 61 ∷ 49 ∷ 13 ∷ 10 ∷ [], none)
    ∷ (68 ∷ 111 ∷ 61 ∷ 49 ∷ 13 ∷ 10 ∷ [], none)
    ∷ (65 ∷ 66 ∷ 67 ∷ 68 ∷ 69 ∷ 70 ∷ 71 ∷ 72 ∷ 73 ∷ 61 ∷ 49 ∷ 13 ∷ 10 ∷ [], none)
    -- a third value
    ∷ (68 ∷ 79 ∷ 61 ∷ 49 ∷ 59 ∷ 50 ∷ 59 ∷ 51 ∷ 13 ∷ 10 ∷ [], none)
    -- bytes that are not printable
    ∷ (68 ∷ 79 ∷ 61 ∷ 31 ∷ 13 ∷ 10 ∷ [], none)
    ∷ (68 ∷ 79 ∷ 61 ∷ 127 ∷ 13 ∷ 10 ∷ [], none)
    ∷ (68 ∷ 79 ∷ 61 ∷ 233 ∷ 13 ∷ 10 ∷ [], none)
    -- other lines are checked too
    ∷ (74 ∷ 79 ∷ 66 ∷ 61 ∷ 49 ∷ 13 ∷ 10 ∷ 97 ∷ 61 ∷ 49 ∷ 13 ∷ 10 ∷ [], none)
    ∷ []

pub messages_hold : MessagesHold message_rows
unfolding becomes
messages_hold =
    (refl, (refl, (refl, (refl, (refl, (refl, (refl, (refl, (refl, (refl, (refl, (refl, (refl, (refl, (refl, (refl, (refl, (refl, (refl, (refl, (refl, (refl, (refl, tt)))))))))))))))))))))))

-- ---- at the limits: a value of 80 bytes and one more, a message of 4,096 bytes and one more, and the longest array
abbrev spaces : ℕ → List ℕ
spaces n = replicate n 32

-- a line of another name, of n and four bytes
abbrev other : ℕ → List ℕ
other n = 78 ∷ 61 ∷ (spaces n ++ (13 ∷ 10 ∷ []))

-- 63 lines of 64 bytes, and one of n and four
abbrev many : ℕ → List ℕ
many n = gather (λ l. l) (replicate 63 (other 60)) ++ other n

-- a line with two values of 80 bytes
abbrev long : List ℕ → List ℕ
long n = n ++ (61 ∷ (spaces 80 ++ (59 ∷ (spaces 80 ++ (13 ∷ 10 ∷ [])))))

pub value_limit : (becomes (other 80) ≡ some bare_void) × (becomes (other 81) ≡ none)
unfolding becomes
value_limit = (refl, refl)

pub message_limit : (length (many 60) ≡ message_max) × (becomes (many 60) ≡ some bare_void) × (becomes (many 61) ≡ none)
unfolding becomes
message_limit = (refl, refl, refl)

-- the longest array that a message becomes, and the shortest
pub array_limits :
    (maybe 0 (λ t. length (array_bytes (t ∷ []))) (becomes (gather long names)) ≡ traced_max)
    × (maybe 0 (λ t. length (array_bytes (t ∷ []))) (becomes []) ≡ 9)
unfolding becomes
array_limits = (refl, refl)
