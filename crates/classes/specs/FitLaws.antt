-- Laws of totals that fit: class after class, pair after pair.
use Rattle.std.specs.Prelude.{◌≡◌, refl, List, [], ◌∷◌, Bool, false, cond, ◌&&◌, ℕ, ◌+◌, ◌*◌, ◌≤◌, length}
use Rattle.std.proofs.Math.Path.{sym, ap}
use Rattle.std.proofs.Common.{subst, ◌∙◌, arith}
use Rattle.std.proofs.Math.Bool.{true}
use Rattle.spec_trees.specs.Lists.{all}
use Rattle.spec_trees.specs.FilterLaws.{all_same}
use Rattle.spec_trees.specs.Limits.{work_min}
use Rattle.spec_trees.specs.Tree.{Tree, trees}
use Rattle.spec_trees.specs.Within.{AllowedA}
use Rattle.areas.specs.Area.{Is, IsAt, field_end, span}
use Rattle.areas.specs.declared.span.Span.{Span}
use Rattle.format.specs.Stand.{trees_bytes}
use Rattle.spec_queries.specs.Query.{Route, Pair}
use Rattle.spec_queries.specs.Bytes.{pair_f}
use Rattle.queries.specs.Places.{route_bytes, pair_bytes, pairs_bytes, array_trees, HoldsAt, ReadsPair, TotalIs}
use Rattle.queries.specs.PartLaws.{list_parts, list_none}
use Rattle.queries.specs.TreesLaws.{array_before}
use Rattle.queries.specs.declared.item.PairAt.{PairAt}
use Rattle.paths.specs.Walk.{Walk}
use Rattle.spec_stages.specs.Totals.{total, fits_signed}
use Rattle.spec_stages.specs.Group.{Class, total_fits, totals_fit}
use Rattle.spec_stages.specs.Flat.{members, flat}
use Rattle.spec_stages.proofs.KeepLaws.{allowed_ok}
use Rattle.keys.specs.KeyLaws.{pair_source}
use Rattle.arrange.specs.Arrange.{arranged, Arranged}
use Rattle.totals.specs.declared.exact.Total.{Total}
use Rattle.totals.specs.Exact as exact
use Rattle.totals.specs.Sum.{TotalOver}
use Rattle.key_index.specs.declared.front.Reached.{Reached}
use Rattle.classes.specs.Read.{Stems, ClassesAt, reached, Unread, EndReady, EndIs}
use Rattle.classes.specs.ReadLaws.{first_allowed, others_allowed, unread_all, ClassParts, class_none, class_parts}
use Rattle.classes.specs.Fit.{source_fits, SourceFits, PairFits, PairsFit}

-- ---- of one source, class after class
-- r is what is to be said of whatever classes are left
abbrev pub FitsFrom : (w : List ℕ) (n : ℕ) (q : List ℕ) (source_at : Span) (f : Reached) → Bool → Type 0
FitsFrom w n q source_at f r = (path : Route) (p : Tree → ℕ) (cs : List Class)
    → IsAt q source_at (route_bytes path) → Stems p cs → AllowedA (flat cs) → Unread w f n (arranged p cs) → r ≡ source_fits path cs

-- what is right for those that are left is right for all
pub record FitGoing (w : List ℕ) (n : ℕ) (q : List ℕ) (source_at : Span) (f : Reached) : Type 0 where
  pub stem : Tree → ℕ
  pub left : List Class
  pub stems : Stems stem left
  pub allowed : AllowedA (flat left)
  pub unread : Unread w f n (arranged stem left)
  pub right : (r : Bool) → FitsFrom w n q source_at f r → FitsFrom w n q source_at (reached 0 0) r

module _ {w : List ℕ} {n : ℕ} {q : List ℕ} {source_at : Span} (c : ClassesAt w n) where
  pub fit_begin : FitGoing w n q source_at (reached 0 0)
  fit_begin = record {
    stem = c.stem;
    left = c.classes;
    stems = c.stems;
    allowed = c.allowed;
    unread = unread_all c.stands;
    right = λ r h. h;
  }

  fit_all : {r : Bool} → FitsFrom w n q source_at (reached 0 0) r → SourceFits w n q source_at r
  fit_all k path p cs hq o a h = k path p cs hq o a (unread_all h)

  module _ {f : Reached} (i : FitGoing w n q source_at f) where
    pub fit_end : f.to ≡ n → SourceFits w n q source_at true
    unfolding source_fits all
    fit_end z = fit_all (i.right true (λ path p cs hq o a h. sym (ap (source_fits path) (class_none p cs z h))))

    module _ (ne : f.to ≡ n → ⊥) {m : ℕ} (g : m ≡ field_end w f.to) where
      parts : (p : Tree → ℕ) (cs : List Class) → Unread w f n (arranged p cs) → ClassParts w f n m p cs
      parts p cs h = class_parts p cs ne g h

      abbrev here : ClassParts w f n m i.stem i.left
      here = parts i.stem i.left i.unread

      pub fit_places : (f.to + 6 ≤ m) × (m ≤ n) × (n ≤ length w) × (length w ≡ work_min) × (6 * f.count ≤ f.to)
      fit_places = (here.one.after, here.one.within, i.unread.trees_is.inside, c.size, i.unread.sparse)

      others_stem : (p : Tree → ℕ) (cs : List Class) → Stems p cs → (h : Unread w f n (arranged p cs)) → Stems p (parts p cs h).others
      others_stem p cs o h = (subst (Stems p) (parts p cs h).same o).1

      pub fit_ends : EndReady w (reached m (f.count + 1)) n
      fit_ends = record {
        rest = here.first.1;
        stem = i.stem;
        others = here.others;
        stems = others_stem i.stem i.left i.stems i.unread;
        unread = here.one.rest;
        small = omega (arith, c.size);
      }

      module _ {e : Reached} (k : EndIs w (reached m (f.count + 1)) n e) where
        ended : (p : Tree → ℕ) (cs : List Class) → Stems p cs → (h : Unread w f n (arranged p cs))
            → Is w m e.to (array_trees (parts p cs h).first.1) × Unread w e n (arranged p (parts p cs h).others)
        ended p cs o h = let d = parts p cs h in k d.first.1 p d.others (others_stem p cs o h) d.one.rest

        -- the members of the class stand there
        stand : (p : Tree → ℕ) (cs : List Class) → Stems p cs → (h : Unread w f n (arranged p cs)) → Is w f.to e.to (array_trees (members (parts p cs h).first))
        stand p cs o h = let d = parts p cs h in array_before d.first.0 d.first.1 d.one.tree_is (ended p cs o h).0

        pub fit_walk : HoldsAt route_bytes q source_at → Walk trees_bytes q source_at 0 w (span f.to e.to)
        fit_walk h = record {
          path = h;
          step = omega arith;
          stands = record { value = trees (members here.first); value_is = stand i.stem i.left i.stems i.unread };
        }

        pub fit_less : (f.to + 6 ≤ e.to) × (e.to ≤ n)
        fit_less =
            let a = ended i.stem i.left i.stems i.unread in
            (omega (arith, here.one.after, a.0.ends), omega (arith, a.1.trees_is.ends))

        module _ {t : Total} (is : TotalOver q source_at w (span f.to e.to) t) {b : Bool} (fits : exact.Fits t b) where
          -- whether that of the class fits
          class_fits : (path : Route) (p : Tree → ℕ) (cs : List Class) → IsAt q source_at (route_bytes path) → Stems p cs → AllowedA (flat cs)
              → (h : Unread w f n (arranged p cs)) → b ≡ fits_signed (total path (members (parts p cs h).first))
          class_fits path p cs hq o a h =
              let d = parts p cs h in
              let ok = first_allowed d.first d.others (subst (λ l. AllowedA (flat l)) d.same a) in
              fits (total path (members d.first)) (is.total_is path (members d.first) hq (allowed_ok (members d.first) ok) (stand p cs o h))

          -- and so of it and the others
          split_fits : (path : Route) (p : Tree → ℕ) (cs : List Class) → IsAt q source_at (route_bytes path) → Stems p cs → AllowedA (flat cs)
              → (h : Unread w f n (arranged p cs)) → source_fits path cs ≡ b && source_fits path (parts p cs h).others
          unfolding source_fits all
          split_fits path p cs hq o a h =
              let d = parts p cs h in
              ap (source_fits path) d.same ∙ ap (λ x. x && source_fits path d.others) (sym (class_fits path p cs hq o a h))

          pub fit_stop : b ≡ false → SourceFits w n q source_at false
          fit_stop z = fit_all (i.right false (λ path p cs hq o a h.
              sym (split_fits path p cs hq o a h ∙ ap (λ x. x && source_fits path (parts p cs h).others) z)))

          pub fit_again : b ≡ true → FitGoing w n q source_at e
          fit_again z = record {
            stem = i.stem;
            left = here.others;
            stems = others_stem i.stem i.left i.stems i.unread;
            allowed = others_allowed here.first here.others (subst (λ l. AllowedA (flat l)) here.same i.allowed);
            unread = (ended i.stem i.left i.stems i.unread).1;
            right = λ r next. i.right r (λ path p cs hq o a h.
                let d = parts p cs h in
                next path p d.others hq (others_stem p cs o h) (others_allowed d.first d.others (subst (λ l. AllowedA (flat l)) d.same a)) (ended p cs o h).1
                ∙ sym (split_fits path p cs hq o a h ∙ ap (λ x. x && source_fits path d.others) z));
          }

-- ---- of one pair: a total, or not
all_plain : (x : Pair) → x.is_total ≡ false → (cs : List Class) → true ≡ all (total_fits x) cs
unfolding all total_fits
all_plain x z [] = refl
all_plain x z (c ∷ cs) = all_plain x z cs ∙ ap (λ i. cond i (fits_signed (total x.source (members c))) true && all (total_fits x) cs) (sym z)

all_total : (x : Pair) → x.is_total ≡ true → (cs : List Class) → source_fits x.source cs ≡ all (total_fits x) cs
unfolding source_fits total_fits
all_total x z cs =
    all_same (λ c. fits_signed (total x.source (members c))) (total_fits x) (λ c. ap (λ i. cond i (fits_signed (total x.source (members c))) true) (sym z)) cs

pub source_holds : {q : List ℕ} {p e : ℕ} {a : PairAt} → ReadsPair q (span p e) a → HoldsAt pair_bytes q (span p e) → HoldsAt route_bytes q a.source
source_holds reads h = record { value = h.value.source; value_is = pair_source (reads h.value h.value_is) }

module _ {w : List ℕ} {n : ℕ} {q : List ℕ} {p e : ℕ} {o : Bool} (says : TotalIs q (span p e) o) where
  pub pair_plain : o ≡ false → PairFits w n q (span p e) true
  pair_plain z x stem cs hx os a h = all_plain x (sym (says x hx) ∙ z) cs

  pub pair_total : {a : PairAt} → ReadsPair q (span p e) a → o ≡ true → {r : Bool} → SourceFits w n q a.source r → PairFits w n q (span p e) r
  pair_total reads z k x stem cs hx os al h = k x.source stem cs (pair_source (reads x hx)) os al h ∙ all_total x (sym (says x hx) ∙ z) cs

-- ---- pair after pair
module _ {w : List ℕ} {n : ℕ} (q : List ℕ) (p e : ℕ) where
  pub pairs_end : p ≡ e → PairsFit w n q (span p e) true
  unfolding totals_fit all
  pairs_end z ps stem cs hp o a h = sym (ap (λ l. totals_fit l cs) (list_none pair_f ps z hp))

  module _ (ne : p ≡ e → ⊥) {m : ℕ} (g : m ≡ field_end q p) {b : Bool} (k : PairFits w n q (span p m) b) where
    split_pairs : (ps : List Pair) (stem : Tree → ℕ) (cs : List Class) (hp : Is q p e (pairs_bytes ps)) → Stems stem cs → AllowedA (flat cs) → Arranged w n stem cs
        → totals_fit ps cs ≡ b && totals_fit (list_parts pair_f ps g ne hp).rest cs
    unfolding totals_fit all
    split_pairs ps stem cs hp o a h =
        let d = list_parts pair_f ps g ne hp in
        ap (λ l. totals_fit l cs) d.same ∙ ap (λ x. x && totals_fit d.rest cs) (sym (k d.first stem cs d.first_is o a h))

    pub pairs_not : b ≡ false → PairsFit w n q (span p e) false
    pairs_not z ps stem cs hp o a h =
        sym (split_pairs ps stem cs hp o a h ∙ ap (λ x. x && totals_fit (list_parts pair_f ps g ne hp).rest cs) z)

    pub pairs_next : b ≡ true → (r : Bool) → PairsFit w n q (span m e) r → PairsFit w n q (span p e) r
    pairs_next z r f ps stem cs hp o a h =
        let d = list_parts pair_f ps g ne hp in
        f d.rest stem cs d.rest_is o a h ∙ sym (split_pairs ps stem cs hp o a h ∙ ap (λ x. x && totals_fit d.rest cs) z)
