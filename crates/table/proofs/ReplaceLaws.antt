-- A replaced list holds the ids that were given, and nothing outside of it is written. Assumes nothing.
use mathlib.Core.Path.{◌≡◌}
use Prim.Native.Nat.{ℕ, ◌+◌, ◌≤◌}
use native.Mathlib.Omega.{arith}
use mathlib.Core.Bool.{true}
use mathlib.Core.List.{List, ◌∷◌, ◌++◌, append_assoc}
use lib.ListN.{length, get_or, take, drop, length-take, length-append}
use lib.Seq.{get_or-append_seam, take-append_seam, drop-append_seam, drop-append-add}
use Rattle.params.specs.declared.HNSWParams.{HNSWParams}
use Rattle.table.specs.Layout.{slots, list_start, HasList, count_at, slots_at, list_at, slack_at, padded, replaced}
use Rattle.std.specs.List.{list_all}
use Rattle.table.specs.Rules.{is_nothing}
use Rattle.table.proofs.ApartLaws.{list_end}
use Rattle.table.proofs.PadLaws.{length-padded, padded_ids, padded_slack}

-- ---- a table of three parts, the middle a list

module _ (front mid back : List ℕ) (x s n : ℕ) (e : length front ≡ s) (f : length mid ≡ n) where
  abbrev whole : List ℕ
  whole = front ++ (x ∷ mid) ++ back

  head_length : length (front ++ (x ∷ mid)) ≡ s + 1 + n
  head_length = omega (arith, length-append front (x ∷ mid), e, f)

  at_count : get_or whole s 0 ≡ x
  at_count = rw (append_assoc front (x ∷ mid) back, ← e) (get_or-append_seam front x (mid ++ back) 0)

  at_slots : take n (drop (s + 1) whole) ≡ mid
  at_slots = rw (append_assoc front (x ∷ mid) back, ← e, ← f, drop-append-add front (x ∷ (mid ++ back)) 1) (take-append_seam mid back)

  before : take s whole ≡ front
  before = rw (append_assoc front (x ∷ mid) back, ← e) (take-append_seam front (x ∷ (mid ++ back)))

  behind : drop (s + 1 + n) whole ≡ back
  behind = rw (← head_length) (drop-append_seam (front ++ (x ∷ mid)) back)

-- ---- a replaced list

module _ (p : HNSWParams) (links : List ℕ) (id level : ℕ) (ids : List ℕ) (h : HasList p links id level) where
  abbrev start : ℕ
  start = list_start p id level

  abbrev new : List ℕ
  new = replaced p links id level ids

  front_length : length (take start links) ≡ start
  front_length = omega (arith, h.within, length-take start links)

  pub replaced_count : count_at p new id level ≡ length ids
  unfolding count_at replaced
  replaced_count = at_count (take start links) (padded (slots p level) ids) (drop (list_end p id level) links) (length ids) start (slots p level) front_length (length-padded (slots p level) ids)

  replaced-slots : slots_at p new id level ≡ padded (slots p level) ids
  unfolding slots_at replaced
  replaced-slots = at_slots (take start links) (padded (slots p level) ids) (drop (list_end p id level) links) (length ids) start (slots p level) front_length (length-padded (slots p level) ids)

  pub replaced_list : length ids ≤ slots p level → list_at p new id level ≡ ids
  unfolding list_at
  replaced_list l = rw (replaced_count, replaced-slots) (padded_ids (slots p level) ids l)

  -- what R7 asks of a list
  pub replaced_slack : list_all is_nothing (slack_at p new id level) ≡ true
  unfolding slack_at
  replaced_slack = rw (replaced_count, replaced-slots) (padded_slack (slots p level) ids)

  pub replaced_before : take start new ≡ take start links
  unfolding replaced
  replaced_before = before (take start links) (padded (slots p level) ids) (drop (list_end p id level) links) (length ids) start (slots p level) front_length (length-padded (slots p level) ids)

  pub replaced_behind : drop (list_end p id level) new ≡ drop (list_end p id level) links
  unfolding replaced
  replaced_behind = behind (take start links) (padded (slots p level) ids) (drop (list_end p id level) links) (length ids) start (slots p level) front_length (length-padded (slots p level) ids)
