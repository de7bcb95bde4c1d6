-- The rule holds at the start.
use Rattle.std.proofs.Common.{◌≡◌, ℕ, zero, suc, List, [], length, replicate, get_or, sym, refl, ap, ◌∙◌, subst, arith}
use Rattle.std.proofs.lemmas.Option.{none-some, same_Some}
use Rattle.list_machine.specs.Words.{blank}
use Rattle.list_machine.specs.State.{Words, zero_words, link_in}
use Rattle.list_machine.specs.Facts.{IsAt, total, Chain, claimed_chain, owned_chain, chain_of, LeadsTo, place_of}
use Rattle.list_machine.specs.Rule.{IsList, IsBegun, Shape, Sound}
use Rattle.list_machine.specs.Steps.{opening, opening_leaf}
use Rattle.list_machine.specs.declared.views.LinkWord.{LinkWord}
use Rattle.list_machine.specs.declared.views.LinkWord.TheVariants.{OfList, OfChunk}
use Rattle.list_machine.specs.declared.views.Leaf.{Leaf}
use Rattle.list_machine.specs.declared.views.Book.{Book}
use Rattle.list_machine.specs.declared.views.Owner.{Owner}
use Rattle.list_machine.proofs.Lists.{at_nothing}

abbrev pub zero_list : ℕ → List ℕ
zero_list n = replicate n 0

pub zeros : (n b : ℕ) → get_or (zero_list n) b 0 ≡ 0
zeros zero b = refl
zeros (suc n) zero = refl
zeros (suc n) (suc b) = zeros n b

zeros_length : (n : ℕ) → length (zero_list n) ≡ n
zeros_length zero = refl
zeros_length (suc n) = ap suc (zeros_length n)

-- an owner that knows nothing, of these lists, and no guests
abbrev alone : Book → Owner
alone b = record { book = b; out = zero_list (suc (length b.order)); facts = [] }

alone_sound : (w : Words) (b : Book) → Shape w b → Sound w (alone b) []
alone_sound w b shape = record {
  shape = shape;
  known = record {
    seats = λ j v p. absurd (at_nothing j v p);
    owner = λ k f p. absurd (at_nothing k f p);
    apart = λ j h l i v u p. absurd (at_nothing j v p);
    granted = λ l a p. let few = (shape.lists.lists l a p).counted in omega arith;
  };
  counted = record {
    births = λ i. sym (zeros (suc (length b.order)) i);
    numbers = zeros_length (suc (length b.order));
    born = λ j v p. absurd (at_nothing j v p);
  };
}

pub all_same : (n l : ℕ) (a e : Leaf) → IsAt (replicate n a) l e → a ≡ e
all_same zero l a e p = absurd (none-some e p)
all_same (suc n) zero a e p = same_Some a e p
all_same (suc n) (suc l) a e p = all_same n l a e p

pub no_chunks : (x : Chain) (r c : ℕ) → IsAt (chain_of opening_leaf x) r c → ⊥
no_chunks claimed_chain r c p = at_nothing r c p
no_chunks owned_chain r c p = at_nothing r c p

no_links : (from : LinkWord) → LeadsTo [] from 0 → link_in 0 (λ c. 0) from ≡ 0
no_links OfList to = refl
no_links (OfChunk b) to = refl

opening_list : IsList blank 0 (λ c. 0) (λ c k. blank) opening_leaf
opening_list = record {
  counted = omega arith;
  shown = refl;
  now = (
    record {
      filled = λ r c k p. absurd (at_nothing r c p);
      unused = λ r c k p. absurd (at_nothing r c p);
      used = omega arith;
      room = omega arith;
      linked = λ from r c to p. absurd (at_nothing r c p);
      ended = no_links;
      small = λ c has. absurd (no_chunks has.0 has.1 c has.2);
    },
    λ c k has. absurd (no_chunks has.0 has.1 c has.2),
  );
}

pub nothing_granted : (n : ℕ) → total (λ (a : Leaf). a.granted) (replicate n opening_leaf) ≡ 0
nothing_granted zero = refl
nothing_granted (suc n) = let h = nothing_granted n in omega arith

pub opening_shape : (lists : ℕ) → Shape zero_words (opening lists).book
opening_shape lists = record {
  lists = record {
    lists = λ l a p. subst (IsList blank 0 (λ c. 0) (λ c k. blank)) (all_same lists l opening_leaf a p) opening_list;
    free = λ c none. (refl, λ k lt. refl);
    once = λ l h a e x y r q c p p' m n. let is = all_same lists l opening_leaf a p in absurd (no_chunks x r c (subst (λ (b : Leaf). IsAt (chain_of b x) r c) (sym is) m));
    few = let none = nothing_granted lists in omega arith;
  };
  order = record {
    places = λ l p a at is. let e = all_same lists l opening_leaf a at in absurd (none-some p (ap (λ (b : Leaf). place_of b.stage) e ∙ is));
    listed = λ p l at. absurd (at_nothing p l at);
    begun = λ l a at. subst (λ (b : Leaf). IsBegun 0 b.stage) (all_same lists l opening_leaf a at) tt;
    ended = λ l p n a at st lt. absurd (omega arith);
    within_order = omega arith;
  };
}

pub opening_sound : (lists : ℕ) → Sound zero_words (opening lists) []
opening_sound lists = alone_sound zero_words (opening lists).book (opening_shape lists)
