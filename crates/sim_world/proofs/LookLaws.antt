-- A viewer reads slot after slot, while others make steps. What it holds are its seat's facts, so no step of another
-- actor touches this, and each of its own reads finds what a fact says of the slot.
use Rattle.std.proofs.Common.{◌≡◌, ℕ, zero, suc, ◌+◌, ◌-◌, ◌<◌, ◌^◌, Bool, true, false, cond, not, List, [], ◌∷◌, ◌++◌, refl, sym, ap, ◌∙◌, subst, arith, append_assoc}
use Rattle.std.specs.Prelude.{Option, Some, None, option_to_list, nat_le, ◌&&◌}
use Rattle.octree_model.specs.Numbers.{has}
use Rattle.list_machine.specs.Words.{Word, item_in}
use Rattle.list_machine.specs.Facts.{IsAt}
use Rattle.list_machine.specs.Machine.{State, IsSound}
use Rattle.list_machine.specs.declared.views.Fact.{Fact}
use Rattle.list_machine.specs.declared.views.Fact.TheVariants.{Item}
use Rattle.list_machine.specs.declared.views.Guest.{Guest}
use Rattle.list_machine.specs.Facts.{list_of, is_shut}
use Rattle.list_machine.specs.Steps.{newcomer, is_open_at}
use Rattle.list_machine.specs.declared.views.Grant.{Grant}
use Rattle.list_machine.specs.declared.views.Leaf.{Leaf}
use Rattle.list_machine.specs.declared.views.Stage.{Stage}
use Rattle.list_machine.specs.declared.views.Stage.TheVariants.{Open}
use Rattle.std.proofs.lemmas.Option.{none-some, same_Some}
use Rattle.list_machine.proofs.Knowledge.{owner_has_chunk}
use Rattle.list_machine.proofs.Lists.{at_more, at_last}
use Rattle.sim_world.proofs.Members.{in_filter, has_here, has_left, has_right}
use Rattle.list_machine.specs.Moves.{seat_made}
use Rattle.sim_world.specs.Frames.{look_now, slots_due}
use Rattle.sim_world.specs.Jobs.{JobValue}
use Rattle.sim_world.specs.Stores.{Covers, AreOpen, IsIn}
use Rattle.sim_world.specs.Versions.{WorldVersion}
use Rattle.sim_world.specs.Worlds.{Look, Slot, World}

abbrev slot : ℕ → ℕ → Slot
slot c k = record { chunk = c; place = k }

-- each item that the facts place in these slots was found
abbrev pub Found : List Fact → List Slot → List ℕ → Type 0
Found facts past found = (l c k x : ℕ) → x < 2 ^ 32 → IsIn facts (Item l c k x) → IsIn past (slot c k) → has x found ≡ true

-- a frame that is out
pub record IsLooking (job : JobValue) (guests : List Guest) (v : Look) : Type 0 where
  pub guest : Guest
  pub here : IsAt guests v.seat guest
  pub out : guest.out ≡ true
  pub covers : Covers v.version guest.facts
  pub past : List Slot
  pub slots : past ++ v.todo ≡ slots_due job v.version
  pub found : Found guest.facts past v.found

-- a slot with the value x + 1 has the item x
pub item_of : (w : Word) (x : ℕ) → w.value ≡ x + 1 → x < 2 ^ 32 → item_in w ≡ Some x
item_of w x is lt = by (nat_le 1 w.value && nat_le w.value (2 ^ 32)) refl where
  by : (b : Bool) → (nat_le 1 w.value && nat_le w.value (2 ^ 32)) ≡ b → cond b (Some (w.value - 1)) None ≡ Some x
  by true e = let n : w.value - 1 ≡ x = omega arith in ap Some n
  by false e = absurd (grind arith)

-- one read of a slot, in any sound state in which the seat still has its facts
pub read_on : (s : State) (j : ℕ) (g : Guest) (past : List Slot) (found : List ℕ) (d : Slot) → IsSound s → IsAt s.guests j g → Found g.facts past found
    → Found g.facts (past ++ d ∷ []) (found ++ option_to_list (item_in (s.words.slot d.chunk d.place)))
read_on s j g past found d sound at was l c k x lt knows here =
    at_more past d here.0 (slot c k) _ here.1
    (λ p. has_left x found _ (was l c k x lt knows (here.0, p)))
    (λ e is.
    let fact = ((sound.known.seats j g at).facts knows.0 (Item l c k x) knows.1).2.holds in
    let read : item_in (s.words.slot d.chunk d.place) ≡ Some x =
    subst (λ (z : Slot). item_in (s.words.slot z.chunk z.place) ≡ Some x) (sym is) (item_of (s.words.slot c k) x fact lt) in
    has_right x found _ (subst (λ (o : Option ℕ). has x (option_to_list o) ≡ true) (sym read) (has_here x [])))

-- so its own read keeps what it has
pub reads_keep : (job : JobValue) (s : State) (v : Look) (d : Slot) (ds : List Slot) → IsSound s → IsLooking job s.guests v → v.todo ≡ d ∷ ds
    → IsLooking job s.guests (record v { todo = ds; found = v.found ++ option_to_list (item_in (s.words.slot d.chunk d.place)) })
reads_keep job s v d ds sound look next = record {
  guest = look.guest;
  here = look.here;
  out = look.out;
  covers = look.covers;
  past = look.past ++ d ∷ [];
  slots = append_assoc look.past (d ∷ []) ds ∙ (ap (λ t. look.past ++ t) (sym next) ∙ look.slots);
  found = read_on s v.seat look.guest look.past v.found d sound look.here look.found;
}

-- and a step of anybody else keeps it, since it leaves the seat as it is
pub others_keep : (job : JobValue) (guests guests' : List Guest) (v : Look) (look : IsLooking job guests v) → IsAt guests' v.seat look.guest
    → IsLooking job guests' v
others_keep job guests guests' v look still = record {
  guest = look.guest;
  here = still;
  out = look.out;
  covers = look.covers;
  past = look.past;
  slots = look.slots;
  found = look.found;
}

-- ---- the step in which a frame takes its version

open_at : (leaves : List Leaf) (l : ℕ) (a : Leaf) → IsAt leaves l a → a.stage ≡ Open → is_open_at leaves l ≡ true
open_at [] l a at is = absurd (none-some a at)
open_at (e ∷ es) zero a at is = ap (λ (z : Leaf). not (is_shut z.stage)) (same_Some e a at) ∙ ap (λ (t : Stage). not (is_shut t)) is
open_at (e ∷ es) (suc l) a at is = open_at es l a at is

-- the new seat knows what the owner knows of the leaves
newcomer_covers : (s : State) (gs : List Grant) (v : WorldVersion) → IsSound s → Covers v s.owner.facts → AreOpen v s.owner.book.leaves
    → Covers v (newcomer s.owner gs).facts
newcomer_covers s gs v sound covers are x p r item leaf lies =
    let k = covers x p r item leaf lies in
    let t = owner_has_chunk s.words s.owner s.guests sound r.list k.0 k.1 x k.2.0 k.2.1 in (
      k.0,
      k.1,
      in_filter (λ f. is_open_at s.owner.book.leaves (list_of f)) s.owner.facts (Item r.list k.0 k.1 x) k.2
          (open_at s.owner.book.leaves r.list t.0 t.1 (are r t.0 leaf t.1)),
      k.3,
      k.4,
    )

pub looks : (job : JobValue) (w : World) → IsSound w.lists → Covers w.version w.lists.owner.facts → AreOpen w.version w.lists.owner.book.leaves
    → IsLooking job (seat_made w.lists []).guests (look_now job w)
looks job w sound covers are = record {
  guest = newcomer w.lists.owner [];
  here = at_last w.lists.guests (newcomer w.lists.owner []);
  out = refl;
  covers = newcomer_covers w.lists [] w.version sound covers are;
  past = [];
  slots = refl;
  found = λ l c k x lt knows here. absurd (none-some (slot c k) here.1);
}
