-- Tests one after the other: what the first that fails answers, and when all pass. Assumes nothing.
use mathlib.Core.Path.{◌≡◌, refl, sym}
use mathlib.Core.Logic.{inl, inr, ◌↔◌}
use Prim.Native.Nat.{ℕ, zero, suc, ◌+◌, ◌-◌, ◌≤◌, ◌<◌}
use native.Mathlib.Nat.{eq-zero-or-pos}
use native.Mathlib.Omega.{arith}
use mathlib.Core.Bool.{Bool, true, false}
use Rattle.std.specs.Prelude.{Result, Ok, Err}
use Rattle.params.specs.declared.Header.{Header}
use Rattle.table.specs.declared.Broken.{Broken}
use Rattle.table.specs.First.{unless, and_then, each_from, each}
use Rattle.table.specs.Verdict.{each_list}

-- ---- one test, and two

pub unless_is : {E : Type 0} (t : Bool) (e : E) → (unless t e ≡ Ok tt) ↔ (t ≡ true)
unless_is true e = (λ p. refl, λ p. refl)
unless_is false e = (λ p. absurd (cc), λ p. absurd (cc))

pub and_then_is : {E : Type 0} (v w : Result (Unit {0}) E) → (and_then v w ≡ Ok tt) ↔ ((v ≡ Ok tt) × (w ≡ Ok tt))
and_then_is (Ok _) w = (λ p. (refl, p), λ p. p.1)
and_then_is (Err e) w = (λ p. absurd (cc), λ p. p.0)

-- ---- the tests of some places

module _ {E : Type 0} (test : ℕ → Result (Unit {0}) E) where
  from_passes : (k i : ℕ) → ((j : ℕ) → i ≤ j → j < i + k → test j ≡ Ok tt) → each_from test k i ≡ Ok tt
  unfolding each_from
  from_passes zero i h = refl
  from_passes (suc k) i h = rw (h i (omega arith) (omega arith)) (from_passes k (i + 1) (λ j a b. h j (omega arith) (omega arith)))

  from_fails : (k i at : ℕ) (e : E) → i ≤ at → at < i + k → ((j : ℕ) → i ≤ j → j < at → test j ≡ Ok tt) → test at ≡ Err e → each_from test k i ≡ Err e
  unfolding each_from
  from_fails zero i at e a b h f = absurd (omega arith)
  from_fails (suc k) i at e a b h f = elim (eq-zero-or-pos (at - i)) [
    | inl z ↦
        let s : at ≡ i = omega arith in
        let g : test i ≡ Err e = rw s at f in
        rw g
    | inr p ↦ rw (h i (omega arith) (omega arith)) (from_fails k (i + 1) at e (omega arith) (omega arith) (λ j a b. h j (omega arith) (omega arith)) f)
  ]

  from_all : (k i : ℕ) → each_from test k i ≡ Ok tt → (j : ℕ) → i ≤ j → j < i + k → test j ≡ Ok tt
  unfolding each_from
  from_all zero i h j a b = absurd (omega arith)
  from_all (suc k) i h j a b =
      let both = (and_then_is (test i) (each_from test k (i + 1))).0 h in
      elim (eq-zero-or-pos (j - i)) [
        | inl z ↦
            let s : j ≡ i = omega arith in
            rw s both.0
        | inr p ↦ from_all k (i + 1) both.1 j (omega arith) (omega arith)
      ]

  pub each_is : (n : ℕ) → (each n test ≡ Ok tt) ↔ ((j : ℕ) → j < n → test j ≡ Ok tt)
  each_is n = (λ p j l. from_all n 0 p j (omega arith) (omega arith), λ h. from_passes n 0 (λ j a b. h j (omega arith)))

-- ---- a rule at some places

module _ {E : Type 0} (rule : ℕ → Bool) (told : ℕ → E) (n : ℕ) where
  pub rule_holds : ((j : ℕ) → j < n → rule j ≡ true) → Ok tt ≡ each n (λ i. unless (rule i) (told i))
  rule_holds h = sym (from_passes (λ i. unless (rule i) (told i)) n 0 (λ j a b. rw (h j (omega arith))))

  pub rule_broken : (i : ℕ) (e : E) → i < n → ((j : ℕ) → j < i → rule j ≡ true) → rule i ≡ false → e ≡ told i → Err e ≡ each n (λ i. unless (rule i) (told i))
  rule_broken i e l h f t = sym (from_fails (λ i. unless (rule i) (told i)) n 0 i e (omega arith) (omega arith) (λ j a b. rw (h j b)) (rw (f, t)))

  pub rule_is : (each n (λ i. unless (rule i) (told i)) ≡ Ok tt) ↔ ((j : ℕ) → j < n → rule j ≡ true)
  rule_is =
      let test = λ (i : ℕ). unless (rule i) (told i) in
      (λ p j l. (unless_is (rule j) (told j)).0 ((each_is test n).0 p j l), λ h. sym (rule_holds h))

-- ---- a rule of all lists

pub moved : (rule : ℕ → ℕ → Bool) {i j k l : ℕ} → i ≡ j → k ≡ l → true ≡ rule i k → rule j l ≡ true
moved rule e f p = rw (← e, ← f) (sym p)

module _ (h : Header) (rule : ℕ → ℕ → Bool) (told : ℕ → ℕ → Broken) where
  owner_holds : (id : ℕ) → ((level : ℕ) → level ≤ h.params.max_level → rule id level ≡ true) → each (h.params.max_level + 1) (λ level. unless (rule id level) (told id level)) ≡ Ok tt
  owner_holds id p = sym (rule_holds (rule id) (told id) (h.params.max_level + 1) (λ j l. p j (omega arith)))

  pub lists_hold : ((id level : ℕ) → id < h.params.max_item → level ≤ h.params.max_level → rule id level ≡ true) → Ok tt ≡ each_list h rule told
  lists_hold p =
      let test = λ (id : ℕ). each (h.params.max_level + 1) (λ level. unless (rule id level) (told id level)) in
      sym (from_passes test h.params.max_item 0 (λ id a b. owner_holds id (λ level l. p id level (omega arith) l)))

  pub list_breaks : (id level : ℕ) (e : Broken) → id < h.params.max_item → level ≤ h.params.max_level → ((i l : ℕ) → i < id → l ≤ h.params.max_level → rule i l ≡ true) → ((l : ℕ) → l < level → rule id l ≡ true) → rule id level ≡ false → e ≡ told id level → Err e ≡ each_list h rule told
  list_breaks id level e a b below under f t =
      let test = λ (id : ℕ). each (h.params.max_level + 1) (λ level. unless (rule id level) (told id level)) in
      sym (from_fails test h.params.max_item 0 id e (omega arith) (omega arith) (λ i c d. owner_holds i (λ l m. below i l d m)) (sym (rule_broken (rule id) (told id) (h.params.max_level + 1) level e (omega arith) under f t)))

  pub lists_are : (each_list h rule told ≡ Ok tt) ↔ ((id level : ℕ) → id < h.params.max_item → level ≤ h.params.max_level → rule id level ≡ true)
  lists_are =
      let test = λ (id : ℕ). each (h.params.max_level + 1) (λ level. unless (rule id level) (told id level)) in (
        λ p id level a b. (rule_is (rule id) (told id) (h.params.max_level + 1)).0 ((each_is test h.params.max_item).0 p id a) level (omega arith),
        λ r. sym (lists_hold r),
      )
