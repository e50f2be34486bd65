-- Each rule's test passes exactly when its proposition holds. Assumes nothing.
use mathlib.Core.Path.{◌≡◌, refl, sym, ap, subst}
use mathlib.Core.Logic.{inl, inr, ◌↔◌}
use Prim.Native.Nat.{ℕ, zero, suc, ◌*◌, ◌<◌, ◌≤◌}
use native.Mathlib.Nat.{eq-zero-or-pos}
use native.Mathlib.Omega.{arith}
use mathlib.Core.Bool.{Bool, true, false, not, ◌&&◌, ◌||◌}
use mathlib.Core.List.{List, [], ◌∷◌}
use lib.Dec.{T, leb, ltb, eqb}
use borrow.Author.Tests.{ltb-true, ltb-false, leb-true, leb-false, eqb-true, eqb-false, lt-ltb, le-leb, eq-eqb, ne_eqb, not-true}
use lib.Ieee.{Float}
use lib.ListN.{length, get_or}
use Rattle.std.proofs.lemmas.Bool.{and_parts}
use Rattle.std.proofs.lemmas.List.Sums.{AllPass-from_list_all}
use Rattle.params.specs.declared.Header.{Header}
use Rattle.table.specs.Layout.{slots, count_at, list_at, slack_at}
use Rattle.std.specs.List.{list_all}
use Rattle.table.specs.Rules.{r1, r2, r3, r4, r5, r6, r7, r8, r9, is_nothing, may_list, contains, distinct}
use Rattle.table.specs.Passing.{R1, R2, R3, R4, R5, R6, R7, R8, R9}

no : {P : Type 0} → false ≡ true → P
no e = absurd (subst (λ (b : Bool). T (not b)) e tt)

pub cases : {P : Type 0} (t : Bool) → (t ≡ true → P) → (t ≡ false → P) → P
cases true f g = f refl
cases false f g = g refl

-- ---- what a conjunction and a disjunction of tests say

both : (a b : Bool) → a ≡ true → b ≡ true → a && b ≡ true
both a b p q = rw (p, q)

either : {P : Type 0} (a b : Bool) → a || b ≡ true → (a ≡ true → P) → (b ≡ true → P) → P
either true b h f g = f refl
either false b h f g = g h

left : (a b : Bool) → a ≡ true → a || b ≡ true
left a b p = rw p

right : (a b : Bool) → b ≡ true → a || b ≡ true
right true b p = refl
right false b p = p

neither : (a b : Bool) → a || b ≡ false → b ≡ false
neither true b h = no (sym h)
neither false b h = h

-- ---- the rules at one place

pub r1_is : (h : Header) → (r1 h ≡ true) ↔ R1 h
r1_is h =
    let a = leb h.built h.added in
    let b = leb h.added h.params.max_item in (
      λ t. record { built = leb-true h.built h.added (and_parts a b t).0; added = leb-true h.added h.params.max_item (and_parts a b t).1 },
      λ r. both a b (le-leb h.built h.added r.built) (le-leb h.added h.params.max_item r.added),
    )

pub r2_is : (h : Header) → (r2 h ≡ true) ↔ R2 h
r2_is h =
    let a = leb h.metric 3 in
    let b = eqb h.built 0 in
    let c = leb 1 h.metric in (
      λ t. record {
        known = leb-true h.metric 3 (and_parts a (b || c) t).0;
        set = λ p. either b c (and_parts a (b || c) t).1 (λ z. absurd (omega (arith, eqb-true h.built 0 z))) (λ l. leb-true 1 h.metric l);
      },
      λ r. both a (b || c) (le-leb h.metric 3 r.known) (elim (eq-zero-or-pos h.built) [
        | inl z ↦ left b c (eq-eqb h.built 0 z)
        | inr p ↦ right b c (le-leb 1 h.metric (r.set p))
      ]),
    )

pub r3_is : (h : Header) (levels : List ℕ) (id : ℕ) → (r3 h levels id ≡ true) ↔ R3 h levels id
unfolding r3
r3_is h levels id =
    let x = get_or levels id 0 in
    let top = h.params.max_level in
    let a = leb x top in
    let b = not (eqb id 0) in
    let c = eqb x top in
    cases (ltb id h.added)
    (λ p.
    let l : id < h.added = ltb-true id h.added p in (
      λ t.
          let u : a && (b || c) ≡ true = rw p at t in
          record {
            most = λ k. leb-true x top (and_parts a (b || c) u).0;
            first = λ k z. either b c (and_parts a (b || c) u).1 (λ n. absurd (eqb-false id 0 (not-true (eqb id 0) n) z)) (λ e. eqb-true x top e);
            rest = λ k. absurd (omega arith);
          },
      λ r. rw p (both a (b || c) (le-leb x top (r.most l)) (elim (eq-zero-or-pos id) [
        | inl z ↦ right b c (eq-eqb x top (r.first l z))
        | inr q ↦ left b c (ap not (ne_eqb id 0 (λ e. omega arith)))
      ])),
    ))
    (λ p.
    let l : h.added ≤ id = ltb-false id h.added p in (
      λ t. record { most = λ k. absurd (omega arith); first = λ k z. absurd (omega arith); rest = λ k. eqb-true x 0 (rw p at t) },
      λ r. rw p (eq-eqb x 0 (r.rest l)),
    ))

pub r4_is : (h : Header) (marks : List ℕ) (id : ℕ) → (r4 h marks id ≡ true) ↔ R4 h marks id
unfolding r4
r4_is h marks id =
    let x = get_or marks id 0 in
    let a = leb x 1 in
    let b = eqb x 0 in
    let c = ltb id h.built in
    let d = h.params.has_deletion in (
      λ t. record {
        mark = leb-true x 1 (and_parts a (b || (c && d)) t).0;
        built = λ e. either b (c && d) (and_parts a (b || (c && d)) t).1 (λ z. absurd (omega (arith, eqb-true x 0 z))) (λ u. ltb-true id h.built (and_parts c d u).0);
        allowed = λ e. either b (c && d) (and_parts a (b || (c && d)) t).1 (λ z. absurd (omega (arith, eqb-true x 0 z))) (λ u. (and_parts c d u).1);
      },
      λ r. both a (b || (c && d)) (le-leb x 1 r.mark) (elim (eq-zero-or-pos x) [
        | inl z ↦ left b (c && d) (eq-eqb x 0 z)
        | inr q ↦ let e : x ≡ 1 = omega (arith, r.mark) in right b (c && d) (both c d (lt-ltb id h.built (r.built e)) (r.allowed e))
      ]),
    )

pub r5_is : (h : Header) (vectors : List Float) (j : ℕ) → (r5 h vectors j ≡ true) ↔ R5 h vectors j
unfolding r5
r5_is h vectors j =
    let n = h.added * h.dimension in
    cases (ltb j n)
    (λ p.
    let l : j < n = ltb-true j n p in
    (λ t. record { added = λ k. rw p at t; rest = λ k. absurd (omega arith) }, λ r. rw p (r.added l)))
    (λ p.
    let l : n ≤ j = ltb-false j n p in
    (λ t. record { added = λ k. absurd (omega arith); rest = λ k. rw p at t }, λ r. rw p (r.rest l)))

pub r6_is : (h : Header) (levels links : List ℕ) (id level : ℕ) → (r6 h levels links id level ≡ true) ↔ R6 h levels links id level
unfolding r6
r6_is h levels links id level =
    let n = count_at h.params links id level in
    let s = slots h.params level in
    let x = get_or levels id 0 in
    let a = leb n s in
    let b = ltb id h.built in
    let c = leb level x in
    let d = eqb n 0 in (
      λ t.
          let u : (b && c) || d ≡ true = (and_parts a ((b && c) || d) t).1 in
          record {
            fits = leb-true n s (and_parts a ((b && c) || d) t).0;
            unbuilt = λ l. either (b && c) d u (λ v. absurd (omega (arith, ltb-true id h.built (and_parts b c v).0))) (λ e. eqb-true n 0 e);
            above = λ l. either (b && c) d u (λ v. absurd (omega (arith, leb-true level x (and_parts b c v).1))) (λ e. eqb-true n 0 e);
          },
      λ r. both a ((b && c) || d) (le-leb n s r.fits)
          (cases b
          (λ p. cases c
          (λ q. left (b && c) d (both b c p q))
          (λ q. right (b && c) d (eq-eqb n 0 (r.above (leb-false level x q)))))
          (λ p. right (b && c) d (eq-eqb n 0 (r.unbuilt (ltb-false id h.built p))))),
    )

-- ---- list_all entry, and no entry twice

pub at_every : (test : ℕ → Bool) (xs : List ℕ) → ((i : ℕ) → i < length xs → test (get_or xs i 0) ≡ true) → list_all test xs ≡ true
at_every test [] h = refl
at_every test (x ∷ xs) h = both (test x) (list_all test xs) (h 0 (omega arith)) (at_every test xs (λ i l. h (suc i) (omega arith)))

none_at : (x : ℕ) (xs : List ℕ) → contains x xs ≡ false → (i : ℕ) → i < length xs → get_or xs i 0 ≡ x → ⊥
none_at x [] h i l e = absurd (omega arith)
none_at x (y ∷ xs) h zero l e = no (sym (rw (eq-eqb y x e) at h))
none_at x (y ∷ xs) h (suc i) l e = none_at x xs (neither (eqb y x) (contains x xs) h) i (omega arith) e

at_none : (x : ℕ) (xs : List ℕ) → ((i : ℕ) → i < length xs → get_or xs i 0 ≡ x → ⊥) → contains x xs ≡ false
at_none x [] h = refl
at_none x (y ∷ xs) h = rw (ne_eqb y x (h 0 (omega arith))) (at_none x xs (λ i l. h (suc i) (omega arith)))

pub distinct_at : (xs : List ℕ) → distinct xs ≡ true → (i j : ℕ) → i < j → j < length xs → get_or xs i 0 ≡ get_or xs j 0 → ⊥
unfolding distinct
distinct_at [] h i j k l e = absurd (omega arith)
distinct_at (x ∷ xs) h i zero k l e = absurd (omega arith)
distinct_at (x ∷ xs) h zero (suc j) k l e = none_at x xs (not-true (contains x xs) (and_parts (not (contains x xs)) (distinct xs) h).0) j (omega arith) (sym e)
distinct_at (x ∷ xs) h (suc i) (suc j) k l e = distinct_at xs (and_parts (not (contains x xs)) (distinct xs) h).1 i j (omega arith) (omega arith) e

pub at_distinct : (xs : List ℕ) → ((i j : ℕ) → i < j → j < length xs → get_or xs i 0 ≡ get_or xs j 0 → ⊥) → distinct xs ≡ true
unfolding distinct
at_distinct [] h = refl
at_distinct (x ∷ xs) h =
    both (not (contains x xs)) (distinct xs)
    (ap not (at_none x xs (λ j l e. h 0 (suc j) (omega arith) (omega arith) (sym e))))
    (at_distinct xs (λ i j k l e. h (suc i) (suc j) (omega arith) (omega arith) e))

pub r7_is : (h : Header) (links : List ℕ) (id level : ℕ) → (r7 h links id level ≡ true) ↔ R7 h links id level
unfolding r7
r7_is h links id level =
    let xs = slack_at h.params links id level in (
      λ t. record { zero = λ i l. eqb-true (get_or xs i 0) 0 (AllPass-from_list_all is_nothing xs t i 0 l) },
      λ r. at_every is_nothing xs (λ i l. eq-eqb (get_or xs i 0) 0 (r.zero i l)),
    )

pub r8_is : (h : Header) (levels links : List ℕ) (id level : ℕ) → (r8 h levels links id level ≡ true) ↔ R8 h levels links id level
unfolding r8
r8_is h levels links id level =
    let xs = list_at h.params links id level in
    let test = may_list h levels id level in
    let a : ℕ → Bool = λ x. ltb x h.built in
    let b : ℕ → Bool = λ x. not (eqb x id) in
    let c : ℕ → Bool = λ x. leb level (get_or levels x 0) in (
      λ t. record {
        built = λ i l. let x = get_or xs i 0 in ltb-true x h.built (and_parts (a x) (b x) (and_parts (a x && b x) (c x) (AllPass-from_list_all test xs t i 0 l)).0).0;
        other = λ i l. let x = get_or xs i 0 in eqb-false x id (not-true (eqb x id) (and_parts (a x) (b x) (and_parts (a x && b x) (c x) (AllPass-from_list_all test xs t i 0 l)).0).1);
        tall = λ i l. let x = get_or xs i 0 in leb-true level (get_or levels x 0) (and_parts (a x && b x) (c x) (AllPass-from_list_all test xs t i 0 l)).1;
      },
      λ r. at_every test xs (λ i l.
          let x = get_or xs i 0 in
          both (a x && b x) (c x) (both (a x) (b x) (lt-ltb x h.built (r.built i l)) (ap not (ne_eqb x id (r.other i l)))) (le-leb level (get_or levels x 0) (r.tall i l))),
    )

pub r9_is : (h : Header) (links : List ℕ) (id level : ℕ) → (r9 h links id level ≡ true) ↔ R9 h links id level
unfolding r9
r9_is h links id level =
    let xs = list_at h.params links id level in
    (λ t. record { once = distinct_at xs t }, λ r. at_distinct xs r.once)
