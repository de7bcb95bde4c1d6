-- Fronts, passes and what they give, as contracts see them.
use Rattle.std.specs.Prelude.{◌≡◌, ◌≢◌, ◌≤◌, ℕ, Bool, List, [], ◌∷◌, ◌++◌, length, Option, Some, None}
use Rattle.atomic_table.specs.Seated.{TableId}
use Rattle.record_model.specs.Records.{Record, IsPrefix, own, journal}
use Rattle.batch_front.specs.Turns.{Sat, card, pass_view, news_view, first_seen}
use Rattle.record_model.specs.declared.event.Event.{Event}
use Rattle.batch_front.specs.declared.rule.Card.{Card}
use Rattle.batch_front.specs.declared.rule.Place.{Place}
use Rattle.batch_front.specs.declared.rule.Place.TheVariants.{Away, Waits, Holds}
use Rattle.batch_front.specs.declared.rule.View.{View}

-- a front: which one it is, the site of its value, and how many passes it has
pub record FrontValue (S : Type 0) : Type 0 where
  pub table : TableId
  pub site : S
  pub passes : ℕ

-- a pass: the front that gave it, its number, the record that it has seen, the events that it added, and the number of the turn that it holds
pub record PassValue (S : Type 0) : Type 0 where
  pub front : FrontValue S
  pub number : ℕ
  pub seen : Record
  pub mine : List Event
  pub turn : Option ℕ

-- news: the front of the pass that told it, and the record that the pass had seen
pub record NewsValue (S : Type 0) : Type 0 where
  pub front : FrontValue S
  pub seen : Record

-- the pen of a turn: the front, the number of the turn, and whether nothing was appended with it
pub record PenValue (S : Type 0) : Type 0 where
  pub front : FrontValue S
  pub turn : ℕ
  pub unused : Bool

-- the pen is of the turn that the pass holds
abbrev pub IsPenOf : {S : Type 0} → PassValue S → PenValue S → Type 0
IsPenOf pass pen = (pen.front ≡ pass.front) × (pass.turn ≡ Some pen.turn)

-- a pass that has done nothing
abbrev pub new_pass : {S : Type 0} → FrontValue S → ℕ → PassValue S
new_pass front number = record { front = front; number = number; seen = []; mine = []; turn = None }

-- the pass has added an event
abbrev pub added : {S : Type 0} → PassValue S → Event → PassValue S
added pass e = record { front = pass.front; number = pass.number; seen = pass.seen ++ (e, pass.number) ∷ []; mine = pass.mine ++ e ∷ []; turn = pass.turn }

-- what is gathered of a pass
abbrev pub card_of : {S : Type 0} → PassValue S → Card S
card_of pass = card pass.front.site pass.number pass.seen pass.mine

-- the pass is of the front, and holds no turn
abbrev pub IsHome : {S : Type 0} → FrontValue S → PassValue S → Type 0
IsHome front pass = (pass.front ≡ front) × (pass.turn ≡ None)

-- the pass has seen a beginning of the record, in which its own events are just those that it added
abbrev pub IsIn : {S : Type 0} → Record → PassValue S → Type 0
IsIn events pass = IsPrefix pass.seen events × (own events pass.number ≡ pass.mine)

-- three words, one slot, and 1 to 64 passes
pub record IsFront (table : TableId) (passes : ℕ) : Type 0 where
  pub words : table.words ≡ 3
  pub slots : table.slots ≡ 1
  pub some : 1 ≤ passes
  pub few : passes ≤ 64

-- the number of the turn that is held
abbrev pub turn_of : Place → Option ℕ
turn_of Away = None
turn_of (Waits t) = None
turn_of (Holds t) = Some t

module _ {S : Type 0} where
  -- the events of the first card
  abbrev pub first_mine : List (Card S) → List Event
  first_mine [] = []
  first_mine (c ∷ cs) = c.mine

  -- what a pass is whose seat has this view
  abbrev pub pass_value : FrontValue S → ℕ → View S → PassValue S
  pass_value front number v = record { front = front; number = number; seen = first_seen v.cards; mine = first_mine v.cards; turn = turn_of v.place }

-- what the seat of a pass has taken
abbrev pub taken : {V : Type 0} → Place → List (ℕ × Option V)
taken Away = []
taken (Waits t) = []
taken (Holds t) = (0, None) ∷ []

module _ {S : Type 0} {V : Type 0} where
  -- a pass waits in no call, and knows how many publications it has seen
  pub record IsPass (site : S) (number known : ℕ) (me : Sat S V) : Type 0 where
    pub view_is : me.0 ≡ pass_view (card site number (first_seen me.0.cards) (first_mine me.0.cards)) me.0.place
    pub taken_is : me.1 ≡ taken me.0.place
    pub still : (t : ℕ) → me.0.place ≢ Waits t
    pub known_is : length (journal (first_seen me.0.cards)) ≡ known

  -- news have no turn, and how many publications they tell of is known
  pub record IsNews (known : ℕ) (me : Sat S V) : Type 0 where
    pub view_is : me.0 ≡ news_view me.0.told
    pub taken_is : me.1 ≡ []
    pub known_is : length (journal me.0.told) ≡ known
