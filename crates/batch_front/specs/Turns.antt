-- The rule of the front's table: turns by tickets, and one record that only the holder of the turn adds to.
use Rattle.std.specs.Prelude.{◌≡◌, ◌≢◌, ℕ, ◌+◌, ◌%◌, ◌<◌, ◌≤◌, ◌⊎◌, cond, nat_le, List, [], ◌∷◌, ◌++◌, map, length, Option, Some, None}
use Rattle.std.specs.List.{range_with_len}
use mathlib.Core.Option.{none, some}
use lib.ListN.{get_elem?}
use Rattle.atomic_table.specs.Table.{State, Me, Step}
use Rattle.record_model.specs.Records.{Record, IsPrefix, own}
use Rattle.record_model.specs.declared.event.Event.{Event}
use Rattle.batch_front.specs.declared.rule.Card.{Card}
use Rattle.batch_front.specs.declared.rule.Place.{Place}
use Rattle.batch_front.specs.declared.rule.Place.TheVariants.{Away, Waits, Holds}
use Rattle.batch_front.specs.declared.rule.View.{View}

-- the item at a place
abbrev pub At : {X : Type 0} → List X → ℕ → X → Type 0
At xs k x = get_elem? xs k ≡ some x

-- f of each, added up
abbrev pub total : {X : Type 0} → (X → ℕ) → List X → ℕ
total f [] = 0
total f (x ∷ xs) = f x + total f xs

-- P of each
abbrev pub Each : {X : Type 0} → (X → Type 0) → List X → Type 0
Each P [] = Unit {0}
Each P (x ∷ xs) = P x × Each P xs

-- the longer of two records, the first where they are as long
abbrev pub longer : Record → Record → Record
longer xs ys = cond (nat_le (length ys) (length xs)) xs ys

-- how many tickets it is
abbrev pub tickets : Place → ℕ
tickets Away = 0
tickets (Waits t) = 1
tickets (Holds t) = 1

-- it has the ticket t
abbrev pub Has : Place → ℕ → Type 0
Has Away t = ⊥
Has (Waits x) t = x ≡ t
Has (Holds x) t = x ≡ t

module _ {S : Type 0} where
  -- what the numbers of its cards weigh
  abbrev pub weight : (ℕ → ℕ) → View S → ℕ
  weight h v = total (λ (c : Card S). h c.number) v.cards

  -- a card with these fields
  abbrev pub card : S → ℕ → Record → List Event → Card S
  card site number seen mine = record { site = site; number = number; seen = seen; mine = mine }

  -- the view of a pass
  abbrev pub pass_view : Card S → Place → View S
  pass_view c place = record { cards = c ∷ []; told = []; place = place }

  -- the card of a pass that has done nothing
  abbrev pub new_card : S → ℕ → Card S
  new_card site number = card site number [] []

  -- of a seat with these new cards
  abbrev pub hand_view : S → List ℕ → View S
  hand_view site numbers = record { cards = map (new_card site) numbers; told = []; place = Away }

  -- of a seat with the new cards of all numbers below the count
  abbrev pub first_view : S → ℕ → View S
  first_view site count = hand_view site (range_with_len 0 count)

  -- of a seat that was told this
  abbrev pub news_view : Record → View S
  news_view told = record { cards = []; told = told; place = Away }

  -- of a seat that knows nothing
  abbrev pub blank : View S
  blank = news_view []

  -- it stands there now
  abbrev pub placed : View S → Place → View S
  placed v place = record { cards = v.cards; told = v.told; place = place }

  -- this is seen now, from there
  abbrev pub seeing : View S → Record → Place → View S
  seeing v seen place = record { cards = map (λ (c : Card S). card c.site c.number seen c.mine) v.cards; told = v.told; place = place }

  -- an event was added
  abbrev pub adding : View S → Event → View S
  adding v e = record { cards = map (λ (c : Card S). card c.site c.number (c.seen ++ (e, c.number) ∷ []) (c.mine ++ e ∷ [])) v.cards; told = v.told; place = v.place }

  -- the longer of what was seen and what was told is seen
  abbrev pub comparing : View S → View S
  comparing v = record { cards = map (λ (c : Card S). card c.site c.number (longer c.seen v.told) c.mine) v.cards; told = []; place = v.place }

  -- the first card alone, where there is one
  abbrev pub first_cards : List (Card S) → List (Card S)
  first_cards [] = []
  first_cards (c ∷ cs) = c ∷ []

  -- the cards behind the first
  abbrev pub other_cards : List (Card S) → List (Card S)
  other_cards [] = []
  other_cards (c ∷ cs) = cs

  -- what the first card has seen
  abbrev pub first_seen : List (Card S) → Record
  first_seen [] = []
  first_seen (c ∷ cs) = c.seen

  -- what is left of a seat that dealt its first card
  abbrev pub dealer : View S → View S
  dealer v = record { cards = other_cards v.cards; told = v.told; place = v.place }

  -- the first card of a seat, as a pass that stands away
  abbrev pub dealt : View S → View S
  dealt v = record { cards = first_cards v.cards; told = []; place = Away }

  -- news of what the first card of a seat has seen
  abbrev pub teller : View S → View S
  teller v = news_view (first_seen v.cards)

  -- a seat that heard the news of another
  abbrev pub hearer : View S → View S → View S
  hearer v w = record { cards = v.cards; told = w.told; place = v.place }

  -- a seat with the cards of another behind its own
  abbrev pub gatherer : View S → View S → View S
  gatherer v w = record { cards = v.cards ++ w.cards; told = v.told; place = v.place }

  -- a pass has seen a beginning of the record, in which its own events are just those that it made
  pub record Stands (events : Record) (site : S) (c : Card S) : Type 0 where
    pub site_is : c.site ≡ site
    pub seen_is : IsPrefix c.seen events
    pub mine_is : own events c.number ≡ c.mine

  -- what holds of one seat, where so many tickets were served and drawn: who holds the turn has seen the whole record
  pub record Fits (events : Record) (site : S) (served drawn : ℕ) (v : View S) : Type 0 where
    pub cards : Each (Stands events site) v.cards
    pub told : IsPrefix v.told events
    pub waits : (t : ℕ) → v.place ≡ Waits t → (served ≤ t) × (t < drawn)
    pub holds : (t : ℕ) → v.place ≡ Holds t → (t ≡ served) × (served < drawn) × Each (λ (c : Card S). c.seen ≡ events) v.cards
    pub counted : tickets v.place ≤ weight (λ _. 1) v

  module _ {V : Type 0} (record_of : V → Record) (site_of : V → S) (site : S) where
    -- the value is at home and stands for the record, and nobody holds the turn
    pub record IsHome (events : Record) (s : State (Option V) (View S)) : Type 0 where
      pub value : V
      pub there : s.homes ≡ some (Some value) ∷ []
      pub stands : record_of value ≡ events
      pub sited : site_of value ≡ site
      pub free : (j : ℕ) (v : View S) (t : ℕ) → At s.views j v → v.place ≢ Holds t

    -- a seat holds the turn and has the value's slot
    pub record IsOut (s : State (Option V) (View S)) : Type 0 where
      pub gone : s.homes ≡ none ∷ []
      pub seat : ℕ
      pub view : View S
      pub ticket : ℕ
      pub there : At s.views seat view
      pub held : view.place ≡ Holds ticket

    -- the numbers of all cards weigh so much, and the events are of numbers below the count
    pub record InTurn (count : ℕ) (weigh : (ℕ → ℕ) → ℕ) (s : State (Option V) (View S)) : Type 0 where
      pub events : Record
      pub drawn : ℕ
      pub served : ℕ
      pub words : s.words ≡ drawn % 18446744073709551616 ∷ served % 18446744073709551616 ∷ length events % 18446744073709551616 ∷ []
      pub seats : (j : ℕ) (v : View S) → At s.views j v → Fits events site served drawn v
      -- no two seats have one ticket
      pub apart : (j h : ℕ) (v u : View S) (t : ℕ) → At s.views j v → At s.views h u → Has v.place t → Has u.place t → j ≡ h
      pub numbers : (h : ℕ → ℕ) → total (weight h) s.views ≡ weigh h
      pub queue : served + total (λ (v : View S). tickets v.place) s.views ≡ drawn
      pub below : Each (λ (e : Event × ℕ). e.1 < count) events
      pub home : IsHome events s ⊎ IsOut s

    -- each number below the count is on one card
    pub record Kept (count : ℕ) (s : State (Option V) (View S)) : Type 0 where
      pub few : count ≤ 64
      pub turns : InTurn count (λ h. total h (range_with_len 0 count)) s

-- a seat at the table
abbrev pub Sat : Type 0 → Type 0 → Type 0
Sat S V = Me (Option V) (View S)

module _ {S : Type 0} {V : Type 0} where
  -- it waits with a ticket
  abbrev pub Drew : Step (Option V) → Sat S V → ℕ → Sat S V → Type 0
  Drew st m r n = (t : ℕ) × (t % 18446744073709551616 ≡ r) × (n ≡ (placed m.0 (Waits t), m.1))

  -- Its ticket was served: it has the value, which stands for all that it has seen now, and goes on from what it had seen. Or it was not
  abbrev pub Saw : (V → Record) → (V → S) → Step (Option V) → Sat S V → ℕ → Sat S V → Type 0
  Saw record_of site_of st m r n = (t : ℕ) → m.0.place ≡ Waits t
      → (r ≡ t % 18446744073709551616 → (x : V) × Each (Stands (record_of x) (site_of x)) m.0.cards × (n ≡ (seeing m.0 (record_of x) (Holds t), (0, Some x) ∷ m.1)))
      × (r ≢ t % 18446744073709551616 → n ≡ m)

  -- the event was added, and what the seat has taken is as before
  abbrev pub Committed : Event → Step (Option V) → Sat S V → ℕ → Sat S V → Type 0
  Committed e st m r n = n ≡ (adding m.0 e, m.1)

  -- it stands away, and has taken nothing
  abbrev pub Left : Step (Option V) → Sat S V → ℕ → Sat S V → Type 0
  Left st m r n = n ≡ (placed m.0 Away, [])

  -- what was seen and what was told are beginnings of what is seen now
  abbrev pub Compared : Step (Option V) → Sat S V → ℕ → Sat S V → Type 0
  Compared st m r n = (n ≡ (comparing m.0, m.1)) × Each (λ (c : Card S). IsPrefix c.seen (longer c.seen m.0.told) × IsPrefix m.0.told (longer c.seen m.0.told)) m.0.cards

  -- the seat of a pass waits with the ticket of this number
  abbrev pub IsWaiting : Sat S V → ℕ → Type 0
  IsWaiting m ticket = (c : Card S) × (t : ℕ) × (t % 18446744073709551616 ≡ ticket) × (m ≡ (pass_view c (Waits t), []))

  -- the seat of a pass has the value now, and has seen all that it stands for, which goes on from what it had seen
  abbrev pub HasValue : (V → Record) → (V → S) → Sat S V → Sat S V → Type 0
  HasValue record_of site_of m n = (x : V) × (t : ℕ) × Each (Stands (record_of x) (site_of x)) m.0.cards × (n ≡ (seeing m.0 (record_of x) (Holds t), (0, Some x) ∷ []))

  -- the seat of a pass stands away
  abbrev pub IsAway : Sat S V → Type 0
  IsAway m = (c : Card S) × (m ≡ (pass_view c Away, []))

  -- the seat of a pass holds the turn, while the value is out
  abbrev pub IsHolding : Sat S V → Type 0
  IsHolding m = (c : Card S) × (t : ℕ) × (m ≡ (pass_view c (Holds t), (0, None) ∷ []))

  -- the same, and the value is out
  abbrev pub HasTaken : (V → Record) → (V → S) → Sat S V → V → Sat S V → Type 0
  HasTaken record_of site_of m x n = (t : ℕ) × Each (Stands (record_of x) (site_of x)) m.0.cards × (n ≡ (seeing m.0 (record_of x) (Holds t), (0, None) ∷ []))

  -- a seat with new cards of these numbers, which deals them
  abbrev pub IsDealing : S → List ℕ → Sat S V → Type 0
  IsDealing site numbers m = m ≡ (hand_view site numbers, [])

  -- a seat that gathers cards
  abbrev pub IsGathering : List (Card S) → Sat S V → Type 0
  IsGathering cards m = (told : Record) × (m ≡ (record { cards = cards; told = told; place = Away }, []))
