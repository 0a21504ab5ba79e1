-- Equal arrays are equal bytes: of allowed trees; and equal applications.
use Rattle.std.specs.Prelude.{◌≡◌, refl, List, [], ◌∷◌, ◌++◌, map, Bool, true, false, not, ◌↔◌, ℕ, suc, ◌≤◌, ◌<◌, length, get_or, eqb}
use Rattle.std.proofs.Common.{sym, ap, ap₂, subst, ◌∙◌, arith}
use Rattle.std.proofs.Math.Bool.{decide}
use Rattle.std.proofs.Math.Option.{none, some}
use Rattle.std.proofs.lemmas.List.{length-map}
use Rattle.std.proofs.Math.ListN.{get_or-map}
use Rattle.spec_trees.specs.Options.{◌>>=◌}
use Rattle.spec_trees.specs.Lists.{each, same_bytes}
use Rattle.spec_trees.specs.Limits.{tree_max, depth_max}
use Rattle.spec_trees.specs.Tree.{Tree, node, Trees, ε, ◌▹◌, Labels, bare, label, list, trees, bare_void, find}
use Rattle.spec_trees.specs.Size.{size, size_a, size_l, depth, depth_a, depth_l}
use Rattle.spec_trees.specs.SizeLaws.{tree_fs_map}
use Rattle.spec_trees.specs.Bytes.{field_bytes, bytes, tree_f, tree_fs, tree_bytes}
use Rattle.spec_trees.specs.Readers.{fields, inside}
use Rattle.spec_trees.specs.Decode.{tree_r}
use Rattle.spec_trees.specs.Within.{OkA, OkL, Allowed, AllowedA}
use Rattle.spec_trees.specs.OptionLaws.{some_equal, cond_cases}
use Rattle.spec_trees.specs.ListLaws.{All-append, equal_same, same_equal}
use Rattle.spec_trees.proofs.FieldLaws.{fields_bytes}
use Rattle.spec_trees.proofs.ReaderLaws.{all_back}
use Rattle.spec_trees.proofs.ArrayLaws.{tree_law}
use Rattle.format.specs.Stand.{trees_bytes}
use Rattle.spec_queries.specs.Query.{Route}
use Rattle.spec_stages.specs.Paths.{Given, present, joins, over, reached, apply}
use Rattle.spec_stages.specs.DecisionLaws.{given?}
use Rattle.spec_stages.specs.Equality.{same_given}
use Rattle.spec_stages.specs.EqualityLaws.{same_given_lem}
use Rattle.paths.specs.Walk.{given, given_bytes}
use Rattle.paths.specs.WalkLaws.{given_join, given_over}

-- ---- arrays of allowed trees are equal just if their bytes are
pub bytes_equal : (xs ys : List Tree) → AllowedA xs → AllowedA ys → trees_bytes (trees xs) ≡ trees_bytes (trees ys) → xs ≡ ys
bytes_equal xs ys ox oy q =
    let b : bytes (map tree_f xs) ≡ bytes (map tree_f ys) = sym (ap bytes (tree_fs_map xs)) ∙ q ∙ ap bytes (tree_fs_map ys) in
    some_equal xs ys (sym (all_back (tree_law depth_max) xs ox) ∙ ap (inside (each (tree_r depth_max))) b ∙ all_back (tree_law depth_max) ys oy)

pub same_bytes_lem : (xs ys : List Tree) → AllowedA xs → AllowedA ys → (trees_bytes (trees xs) ≡ trees_bytes (trees ys)) ↔ (xs ≡ ys)
same_bytes_lem xs ys ox oy = (bytes_equal xs ys ox oy, λ q. ap (λ l. trees_bytes (trees l)) q)

-- ---- what a path gives of an allowed tree is allowed
abbrev AllowedF : Given → Type 0
AllowedF x = AllowedA (given x)

allowed_list : (a : Trees) → OkA a → size_a a ≤ tree_max → depth_a a ≤ depth_max → AllowedA (list a)
unfolding size depth
allowed_list ε o s d = tt
allowed_list (t ▹ ts) o s d = (record { ok = o.0; small = omega arith; shallow = omega arith }, allowed_list ts o.1 (omega arith) (omega arith))

allowed_find : (k : ℕ) (ls : Labels) (m : ℕ) → OkL ls m → size_l ls ≤ tree_max → depth_l ls ≤ depth_max → AllowedF (find k ls)
unfolding find size depth given
allowed_find k bare m o s d = tt
allowed_find k (label j a ls) m o s d =
    cond_cases AllowedF (eqb k j) (λ e. allowed_list a o.2 (omega arith) (omega arith)) (λ e. allowed_find k ls j o.3 (omega arith) (omega arith))

allowed_reached : (k : ℕ) (t : Tree) → Allowed depth_max t → AllowedF (reached k t)
unfolding size depth reached
allowed_reached k (node r ls) o = allowed_find k ls 0 o.ok.1 (omega (arith, o.small)) (omega (arith, o.shallow))

allowed_joins : (f : Tree → Given) → ((t : Tree) → Allowed depth_max t → AllowedF (f t)) → (ts : List Tree) → AllowedA ts → AllowedF (joins (map f ts))
unfolding joins given
allowed_joins f h [] o = tt
allowed_joins f h (t ∷ ts) o =
    subst AllowedA (sym (given_join (f t) (joins (map f ts)))) (All-append (Allowed depth_max) (given (f t)) (given (joins (map f ts))) (h t o.0) (allowed_joins f h ts o.1))

allowed_over : (f : Tree → Given) → ((t : Tree) → Allowed depth_max t → AllowedF (f t)) → (x : Given) → AllowedF x → AllowedF (x >>= over f)
unfolding given ◌>>=◌
allowed_over f h none o = tt
allowed_over f h (some a) o = subst AllowedA (sym (given_over f a)) (allowed_joins f h a o)

pub apply_allowed : (p : Route) (t : Tree) → Allowed depth_max t → AllowedA (given (apply p t))
unfolding apply given
apply_allowed [] t o = (o, tt)
apply_allowed (k ∷ p) t o = allowed_over (apply p) (apply_allowed p) (reached k t) (allowed_reached k t o)

-- ---- equal applications
not_same : (x y : Given) → (x ≡ y → ⊥) → false ≡ same_given x y
not_same x y n = go (same_given x y) refl
  where
    go : (b : Bool) → same_given x y ≡ b → false ≡ b
    go true q = absurd (n ((same_given_lem x y).0 q))
    go false q = refl

-- absent equals only absent
pub absent_same : (x y : Given) → present x ≡ false → not (present y) ≡ same_given x y
unfolding present same_given decide given?
absent_same none none q = refl
absent_same none (some b) q = refl
absent_same (some a) y q = let z : ◌≡◌ {A = ℕ} 0 1 = cc in absurd (omega arith)

pub other_absent : (x y : Given) → present y ≡ false → not (present x) ≡ same_given x y
unfolding present same_given decide given?
other_absent none none q = refl
other_absent (some a) none q = refl
other_absent x (some b) q = let z : ◌≡◌ {A = ℕ} 0 1 = cc in absurd (omega arith)

pub same_turned : (x y : Given) → same_given x y ≡ same_given y x
same_turned x y = go (same_given x y) refl
  where
    go : (b : Bool) → same_given x y ≡ b → b ≡ same_given y x
    go true q = sym ((same_given_lem y x).1 (sym ((same_given_lem x y).0 q)))
    go false q = not_same y x (λ e.
        let w : ◌≡◌ {A = Bool} true false = sym ((same_given_lem x y).1 (sym e)) ∙ q in
        let z : ◌≡◌ {A = ℕ} 0 1 = cc in
        omega arith)

pub absent_other : (x y : Given) → present x ≡ true → present y ≡ false → false ≡ same_given x y
unfolding present same_given decide given?
absent_other none y p q = let z : ◌≡◌ {A = ℕ} 0 1 = cc in absurd (omega arith)
absent_other (some a) none p q = refl
absent_other (some a) (some b) p q = let z : ◌≡◌ {A = ℕ} 0 1 = cc in absurd (omega arith)

-- two that are present are equal just if their bytes are
pub present_same : (x y : Given) → present x ≡ true → present y ≡ true → AllowedF x → AllowedF y → same_bytes (given_bytes x) (given_bytes y) ≡ same_given x y
unfolding present given
present_same none y p q ox oy = let z : ◌≡◌ {A = ℕ} 0 1 = cc in absurd (omega arith)
present_same (some a) none p q ox oy = let z : ◌≡◌ {A = ℕ} 0 1 = cc in absurd (omega arith)
present_same (some a) (some b) p q ox oy = go (same_bytes (trees_bytes (trees a)) (trees_bytes (trees b))) refl
  where
    go : (r : Bool) → same_bytes (trees_bytes (trees a)) (trees_bytes (trees b)) ≡ r → r ≡ same_given (some a) (some b)
    go true e = sym ((same_given_lem (some a) (some b)).1 (ap some (bytes_equal a b ox oy (same_equal _ _ e))))
    go false e = not_same (some a) (some b) (λ z.
        let w : ◌≡◌ {A = Bool} true false = sym (equal_same _ _ (ap (λ l. trees_bytes (trees l)) (some_equal a b z))) ∙ e in
        let y : ◌≡◌ {A = ℕ} 0 1 = cc in
        omega arith)

-- ---- bytes of arrays, tree by tree
fields_equal : (xs ys : List Tree) → trees_bytes (trees xs) ≡ trees_bytes (trees ys) → map tree_f xs ≡ map tree_f ys
fields_equal xs ys q =
    let b : bytes (map tree_f xs) ≡ bytes (map tree_f ys) = sym (ap bytes (tree_fs_map xs)) ∙ q ∙ ap bytes (tree_fs_map ys) in
    some_equal (map tree_f xs) (map tree_f ys) (sym (fields_bytes (map tree_f xs)) ∙ ap fields b ∙ fields_bytes (map tree_f ys))

pub length_equal : (xs ys : List Tree) → trees_bytes (trees xs) ≡ trees_bytes (trees ys) → length xs ≡ length ys
length_equal xs ys q = sym (length-map xs tree_f) ∙ ap length (fields_equal xs ys q) ∙ length-map ys tree_f

pub element_equal : (xs ys : List Tree) (k : ℕ) → trees_bytes (trees xs) ≡ trees_bytes (trees ys) → tree_bytes (get_or xs k bare_void) ≡ tree_bytes (get_or ys k bare_void)
unfolding tree_bytes
element_equal xs ys k q = ap field_bytes (sym (get_or-map tree_f xs k bare_void) ∙ ap (λ l. get_or l k (tree_f bare_void)) (fields_equal xs ys q) ∙ get_or-map tree_f ys k bare_void)

pub elements_equal : (xs ys : List Tree) → length xs ≡ length ys → ((k : ℕ) → k < length xs → tree_bytes (get_or xs k bare_void) ≡ tree_bytes (get_or ys k bare_void))
    → trees_bytes (trees xs) ≡ trees_bytes (trees ys)
unfolding bytes tree_fs tree_bytes
elements_equal [] [] q h = refl
elements_equal [] (y ∷ ys) q h = absurd (omega arith)
elements_equal (x ∷ xs) [] q h = absurd (omega arith)
elements_equal (x ∷ xs) (y ∷ ys) q h = ap₂ ◌++◌ (h 0 (omega arith)) (elements_equal xs ys (omega arith) (λ k l. h (suc k) (omega arith)))
