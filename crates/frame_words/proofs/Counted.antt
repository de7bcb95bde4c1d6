-- The items of a first part of the parts.
use Rattle.std.proofs.Common.{◌≡◌, ℕ, ◌+◌, ◌-◌, ◌<◌, ◌≤◌, min, List, [], ◌∷◌, ◌++◌, length, take, get_or, ap, ◌∙◌, sym, subst}
use Rattle.std.proofs.lemmas.List.{take_more, append-nil, length-append}
use Rattle.std.proofs.lemmas.Grind.{flat_map-append}
use Rattle.std.proofs.lemmas.List.Folds.{length-flat_map-take}
use Rattle.picture_model.specs.Items.{ItemValue}
use Rattle.frame_words.specs.Parts.{all_items, part_items, portion}
use Rattle.frame_words.specs.declared.parts.Part.{Part}
use Rattle.frame_words.proofs.Cuts.{behind}

-- one part more
pub one_more : (parts : List Part) (i : ℕ) (p : Part) → i < length parts → p ≡ get_or parts i p
    → all_items (take (i + 1) parts) ≡ all_items (take i parts) ++ part_items p
one_more parts i p l is =
    ap all_items (take_more parts i p l) ∙ flat_map-append part_items (take i parts) (get_or parts i p ∷ [])
    ∙ ap (λ (xs : List ItemValue). all_items (take i parts) ++ xs) (append-nil (part_items (get_or parts i p)) ∙ ap part_items (sym is))

pub one_more_fits : (parts : List Part) (i : ℕ) (p : Part) → i < length parts → p ≡ get_or parts i p
    → length (all_items (take i parts)) + length (part_items p) ≤ length (all_items parts)
one_more_fits parts i p l is =
    subst (λ q. length (all_items (take i parts)) + length (part_items q) ≤ length (all_items parts)) (sym is) (length-flat_map-take part_items parts i p l)

pub one_more_long : (parts : List Part) (i : ℕ) (p : Part) → i < length parts → p ≡ get_or parts i p
    → length (all_items (take i parts)) + length (part_items p) ≡ length (all_items (take (i + 1) parts))
one_more_long parts i p l is = sym (ap length (one_more parts i p l is) ∙ length-append (all_items (take i parts)) (part_items p))

-- a portion of the items of one part more
pub portion_more : (a b start len : ℕ) (parts : List Part) (i : ℕ) (p : Part) → i < length parts → p ≡ get_or parts i p
    → start ≡ length (all_items (take i parts)) → len ≡ length (part_items p)
    → portion a b (all_items (take i parts)) ++ portion (min (a - start) len) (min (b - start) len) (part_items p) ≡ portion a b (all_items (take (i
    + 1) parts))
portion_more a b start len parts i p l is s n =
    (λ j. portion a b (all_items (take i parts)) ++ portion (min (a - s j) (n j)) (min (b - s j) (n j)) (part_items p))
    ∙ sym (ap (portion a b) (one_more parts i p l is) ∙ behind a b (all_items (take i parts)) (part_items p))
