-- The test answers that a table passes exactly when all nine rules hold of it (`passes_exactly`). Assumes nothing.
use mathlib.Core.Logic.{◌↔◌}
use mathlib.Core.Path.{◌≡◌}
use Prim.Native.Nat.{ℕ, ◌*◌, ◌<◌, ◌≤◌}
use mathlib.Core.List.{List}
use lib.Ieee.{Float}
use Rattle.std.specs.Prelude.{Ok}
use Rattle.params.specs.declared.Header.{Header}
use Rattle.table.specs.declared.Broken.TheVariants.{R1 as at1, R2 as at2, R3 as at3, R4 as at4, R5 as at5, R6 as at6, R7 as at7, R8 as at8, R9 as at9}
use Rattle.table.specs.First.{unless, and_then, each}
use Rattle.table.specs.Rules.{r1, r2, r3, r4, r5_row, r6, r7, r8, r9}
use Rattle.table.specs.Verdict.{id_of, level_of, verdict1, verdict2to5, each_list, verdict6to9, verdict_of}
use Rattle.table.specs.Passing.{R1, R2, R3, R4, R5, R6, R7, R8, R9, Passing}
use Rattle.table.proofs.FirstLaws.{unless_is, and_then_is, rule_is, lists_are}
use Rattle.table.proofs.RowLaws.{rows_are}
use Rattle.table.proofs.TestLaws.{r1_is, r2_is, r3_is, r4_is, r5_is, r6_is, r7_is, r8_is, r9_is}

-- ---- R1, R2 to R5

pub verdict1_is : (h : Header) → (verdict1 h ≡ Ok tt) ↔ R1 h
verdict1_is h =
    let one = unless_is (r1 h) at1 in
    (λ e. (r1_is h).0 (one.0 e), λ r. one.1 ((r1_is h).1 r))

pub record Columns (h : Header) (vectors : List Float) (levels marks : List ℕ) : Type 0 where
  pub r2 : R2 h
  pub r3 : (id : ℕ) → id < h.params.max_item → R3 h levels id
  pub r4 : (id : ℕ) → id < h.params.max_item → R4 h marks id
  pub r5 : (j : ℕ) → j < h.params.max_item * h.dimension → R5 h vectors j

pub verdict2to5_is : (h : Header) (vectors : List Float) (levels marks : List ℕ) → (verdict2to5 h vectors levels marks ≡ Ok tt) ↔ Columns h vectors levels marks
unfolding verdict2to5
verdict2to5_is h vectors levels marks =
    let n = h.params.max_item in
    let v5 = each n (λ id. unless (r5_row h vectors id) (at5 (id_of id))) in
    let v4 = each n (λ id. unless (r4 h marks id) (at4 (id_of id))) in
    let v3 = each n (λ id. unless (r3 h levels id) (at3 (id_of id))) in
    let v2 = unless (r2 h) at2 in
    let two = and_then_is v2 (and_then v3 (and_then v4 v5)) in
    let three = and_then_is v3 (and_then v4 v5) in
    let four = and_then_is v4 v5 in
    let a2 = unless_is (r2 h) at2 in
    let a3 = rule_is (r3 h levels) (λ id. at3 (id_of id)) n in
    let a4 = rule_is (r4 h marks) (λ id. at4 (id_of id)) n in
    let a5 = rule_is (r5_row h vectors) (λ id. at5 (id_of id)) n in
    let rows = rows_are h vectors n in (
      λ e.
          let p = two.0 e in
          let q = three.0 p.1 in
          let r = four.0 q.1 in
          record {
            r2 = (r2_is h).0 (a2.0 p.0);
            r3 = λ id l. (r3_is h levels id).0 (a3.0 q.0 id l);
            r4 = λ id l. (r4_is h marks id).0 (a4.0 r.0 id l);
            r5 = λ j l. (r5_is h vectors j).0 (rows.0 (a5.0 r.1) j l);
          },
      λ c. two.1 (
        a2.1 ((r2_is h).1 c.r2),
        three.1 (
          a3.1 (λ id l. (r3_is h levels id).1 (c.r3 id l)),
          four.1 (a4.1 (λ id l. (r4_is h marks id).1 (c.r4 id l)), a5.1 (rows.1 (λ j l. (r5_is h vectors j).1 (c.r5 j l)))),
        ),
      ),
    )

-- ---- R6 to R9

pub record Linked (h : Header) (levels links : List ℕ) : Type 0 where
  pub r6 : (id level : ℕ) → id < h.params.max_item → level ≤ h.params.max_level → R6 h levels links id level
  pub r7 : (id level : ℕ) → id < h.params.max_item → level ≤ h.params.max_level → R7 h links id level
  pub r8 : (id level : ℕ) → id < h.params.max_item → level ≤ h.params.max_level → R8 h levels links id level
  pub r9 : (id level : ℕ) → id < h.params.max_item → level ≤ h.params.max_level → R9 h links id level

pub verdict6to9_is : (h : Header) (levels links : List ℕ) → (verdict6to9 h levels links ≡ Ok tt) ↔ Linked h levels links
unfolding verdict6to9
verdict6to9_is h levels links =
    let t6 = λ (id level : ℕ). at6 (id_of id) (level_of level) in
    let t7 = λ (id level : ℕ). at7 (id_of id) (level_of level) in
    let t8 = λ (id level : ℕ). at8 (id_of id) (level_of level) in
    let t9 = λ (id level : ℕ). at9 (id_of id) (level_of level) in
    let v6 = each_list h (r6 h levels links) t6 in
    let v7 = each_list h (r7 h links) t7 in
    let v8 = each_list h (r8 h levels links) t8 in
    let v9 = each_list h (r9 h links) t9 in
    let six = and_then_is v6 (and_then v7 (and_then v8 v9)) in
    let seven = and_then_is v7 (and_then v8 v9) in
    let eight = and_then_is v8 v9 in
    let a6 = lists_are h (r6 h levels links) t6 in
    let a7 = lists_are h (r7 h links) t7 in
    let a8 = lists_are h (r8 h levels links) t8 in
    let a9 = lists_are h (r9 h links) t9 in (
      λ e.
          let p = six.0 e in
          let q = seven.0 p.1 in
          let r = eight.0 q.1 in
          record {
            r6 = λ id level i l. (r6_is h levels links id level).0 (a6.0 p.0 id level i l);
            r7 = λ id level i l. (r7_is h links id level).0 (a7.0 q.0 id level i l);
            r8 = λ id level i l. (r8_is h levels links id level).0 (a8.0 r.0 id level i l);
            r9 = λ id level i l. (r9_is h links id level).0 (a9.0 r.1 id level i l);
          },
      λ c. six.1 (
        a6.1 (λ id level i l. (r6_is h levels links id level).1 (c.r6 id level i l)),
        seven.1 (
          a7.1 (λ id level i l. (r7_is h links id level).1 (c.r7 id level i l)),
          eight.1 (a8.1 (λ id level i l. (r8_is h levels links id level).1 (c.r8 id level i l)), a9.1 (λ id level i l. (r9_is h links id level).1 (c.r9 id level i l))),
        ),
      ),
    )

-- ---- the law that joins them

pub passes_exactly : (h : Header) (vectors : List Float) (levels marks links : List ℕ) → (verdict_of h vectors levels marks links ≡ Ok tt) ↔ Passing h vectors levels marks links
unfolding verdict_of
passes_exactly h vectors levels marks links =
    let v2 = verdict2to5 h vectors levels marks in
    let v6 = verdict6to9 h levels links in
    let one = and_then_is (verdict1 h) (and_then v2 v6) in
    let two = and_then_is v2 v6 in (
      λ e.
          let a = one.0 e in
          let b = two.0 a.1 in
          let c = (verdict2to5_is h vectors levels marks).0 b.0 in
          let d = (verdict6to9_is h levels links).0 b.1 in
          record { r1 = (verdict1_is h).0 a.0; r2 = c.r2; r3 = c.r3; r4 = c.r4; r5 = c.r5; r6 = d.r6; r7 = d.r7; r8 = d.r8; r9 = d.r9 },
      λ p. one.1 (
        (verdict1_is h).1 p.r1,
        two.1 (
          (verdict2to5_is h vectors levels marks).1 (record { r2 = p.r2; r3 = p.r3; r4 = p.r4; r5 = p.r5 }),
          (verdict6to9_is h levels links).1 (record { r6 = p.r6; r7 = p.r7; r8 = p.r8; r9 = p.r9 }),
        ),
      ),
    )
