-- A script of which no item is turned away, entry by entry: the entries before one, itself, and those behind it.
use Rattle.std.specs.Prelude.{None, Some}
use mathlib.Core.List.{List, [], ◌∷◌, ◌++◌, Memᴰ}
use mathlib.Core.Path.{◌≡◌, refl, sym, subst, ◌∙◌, ap}
use Prim.Native.Nat.{ℕ, suc, ◌≤◌, ◌<◌}
use native.Mathlib.Omega.{arith}
use lib.ListN.{length, get_or, take, drop, take-append-drop}
use lib.Seq.{take-suc, split_at}
use Rattle.theory.specs.Tasks.{Task}
use Rattle.lent.specs.Checks.{first_refusal}
use Rattle.sheet.specs.Constants.{most_tasks}
use Rattle.plays.specs.Script.{Script, no_entry, entry_of}
use Rattle.plays.specs.declared.Entry.{Entry}
use Rattle.plays.specs.Items.{standing, item_checks}
use Rattle.plays.proofs.Ledgers.{InOrder, stands_from, in_order_end, no_later, own_before, entry_here, entry_later, entry_of_nil, no_entry_of, entry_behind, entry_before, entry_found, entry_is}
use Rattle.plays.proofs.ScriptLegal.{entries_in_order, entry_sound}

-- an entry of a row is one of its members
pub member_at : (es : List Entry) (j : ℕ) → j < length es → Memᴰ (get_or es j no_entry) es
member_at es j h = subst (Memᴰ (get_or es j no_entry)) (sym (split_at es j no_entry h)) (mathlib.Core.List.Memᴰ.append_right (take j es) (mathlib.Core.List.Memᴰ.head refl))

-- no entry of the row is at tick t
abbrev pub NoneAt : ℕ → List Entry → Type 0
NoneAt t es = (d : Entry) → Memᴰ d es → d.tick ≡ t → ⊥

module _ (es : List Entry) (j : ℕ) (i t : ℕ) where
  -- where none of the first j entries is at tick t, they have none of a task at that tick
  pub none_yet : NoneAt t (take j es) → entry_of (take j es) i t ≡ None
  none_yet h = no_entry_of i t (take j es) (λ d m _ q. h d m q)

  -- where none of the others is at tick t, what the first j entries have at that tick is what all have
  pub none_more : NoneAt t (drop j es) → entry_of es i t ≡ entry_of (take j es) i t
  none_more h =
      ap (λ l. entry_of l i t) (sym (take-append-drop j es))
      ∙ entry_before i t (take j es) (drop j es) (no_entry_of i t (drop j es) (λ d m _ q. h d m q))

module _ (tasks : List Task) (sc : Script) (kept : first_refusal (item_checks tasks sc) ≡ None) where
  -- each entry is of a task of the set
  pub member_in_set : (d : Entry) → Memᴰ d sc.entries → d.task < length tasks
  member_in_set d m =
      let (xs, ys, split, _, _) = entry_found sc.entries d.task d.tick d (entry_is 0 sc.entries (entries_in_order tasks sc kept) d m) in
      (entry_sound tasks sc kept xs d ys split).in_set

  module _ (j : ℕ) (in_row : j < length sc.entries) where
    abbrev e : Entry
    e = get_or sc.entries j no_entry

    abbrev before : List Entry
    before = take j sc.entries

    abbrev behind : List Entry
    behind = drop (suc j) sc.entries

    cut_in_order : InOrder 0 (before ++ (e ∷ behind))
    cut_in_order = rw (← split_at sc.entries j no_entry in_row) (entries_in_order tasks sc kept)

    -- entry j is of a task of the set
    pub entry_in_set : (get_or sc.entries j no_entry).task < length tasks
    entry_in_set = member_in_set e (member_at sc.entries j in_row)

    -- the entries before it have none of its task at its tick
    pub not_yet : entry_of (take j sc.entries) (get_or sc.entries j no_entry).task (get_or sc.entries j no_entry).tick ≡ None
    not_yet = no_entry_of e.task e.tick before (λ d m p q. let z : ⊥ = omega (arith, own_before 0 before e behind cut_in_order d m p) in absurd z)

    -- with it that one is there
    pub now_there : entry_of (take (suc j) sc.entries) (get_or sc.entries j no_entry).task (get_or sc.entries j no_entry).tick ≡ Some (get_or sc.entries j no_entry)
    now_there =
        ap (λ l. entry_of l e.task e.tick) (take-suc sc.entries j no_entry in_row)
        ∙ entry_behind e.task e.tick before (e ∷ []) not_yet
        ∙ entry_here e.task e.tick e [] refl refl

    -- and of another task, or at another tick, nothing has changed
    pub others_stay : (i t : ℕ) → ((get_or sc.entries j no_entry).task ≡ i → (get_or sc.entries j no_entry).tick ≡ t → ⊥)
        → entry_of (take (suc j) sc.entries) i t ≡ entry_of (take j sc.entries) i t
    others_stay i t ne =
        ap (λ l. entry_of l i t) (take-suc sc.entries j no_entry in_row)
        ∙ entry_before i t before (e ∷ []) (entry_later i t e [] ne ∙ entry_of_nil i t)

    module _ (few : length tasks ≤ most_tasks) where
      -- none of the entries behind it is at an earlier tick
      pub behind_no_sooner : (d : Entry) → Memᴰ d (drop (suc j) sc.entries) → (get_or sc.entries j no_entry).tick ≤ d.tick
      behind_no_sooner d m =
          let (a, o) = in_order_end 0 before (e ∷ behind) cut_in_order in
          let there : Memᴰ d sc.entries = rw (split_at sc.entries j no_entry in_row) (mathlib.Core.List.Memᴰ.append_right before (mathlib.Core.List.Memᴰ.tail m)) in
          no_later e d (stands_from (suc (standing e)) behind o.1 d m) (omega (arith, member_in_set d there))
