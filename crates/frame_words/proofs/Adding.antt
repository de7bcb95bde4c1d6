-- Items are added to the keys of a canvas.
use Rattle.std.proofs.Common.{◌≡◌, ℕ, ◌*◌, ◌/◌, ◌%◌, ◌<◌, ◌≤◌, min, Bool, true, false, List, [], ◌∷◌, ◌++◌, length, map, filter, replicate, get_or, Option, Some, None, unwrap_or, inl, inr, ap, ◌∙◌, sym, refl, subst, arith, ◌&&◌, if◌then◌else◌}
use Rattle.std.proofs.lemmas.Bool.{cases_lt}
use Rattle.std.proofs.lemmas.List.{ext_get_or, append-nil, append_assoc, map-append}
use Rattle.std.proofs.lemmas.List.Elements.{filter-append}
use Rattle.octree_model.specs.Numbers.{least, lesser}
use Rattle.picture_model.specs.Cameras.{CameraValue}
use Rattle.picture_model.specs.Frames.{is_drawn, covers, item_key, pixel_keys}
use Rattle.picture_model.specs.Items.{ItemValue}
use Rattle.splat_ppm.specs.Canvases.{no_key, pixel_key, drawn_keys}
use Rattle.splat_ppm.specs.Lowering.{AreLowered}
use Rattle.splat_ppm.proofs.Shown.{drawn_at, length-drawn_keys, nothing_drawn}
use Rattle.frame_words.specs.Hands.{Adds, AreCapped, lesser_keys}
use Rattle.frame_words.proofs.Kept.{or_other, past_end, of_blank, lesser_at, length-lesser}

-- ---- keys stay below that of a pixel at which nothing was drawn
lower_still : (b : Bool) (n key old new : ℕ) → new ≡ (if b then min old key else old) → old ≤ n → new ≤ n
lower_still true n key old new e l = omega (arith, e)
lower_still false n key old new e l = omega (arith, e)

pub capped_lowered : (here : ℕ → Bool) (key : ℕ) (old new : List ℕ) → AreLowered here key old new → AreCapped old → AreCapped new
capped_lowered here key old new is capped k = elim (cases_lt k (length old)) [
  | inl within ↦
      let within' : k < length new = omega (arith, is.long) in
      let before : get_or old k 0 ≤ no_key = subst (λ n. n ≤ no_key) (or_other old k no_key 0 within) (capped k) in
      subst (λ n. n ≤ no_key) (or_other new k 0 no_key within') (lower_still (here k) no_key key (get_or old k 0) (get_or new k 0) (is.at k within) before)
  | inr past ↦ let e : get_or new k no_key ≡ no_key = past_end new k no_key (omega (arith, is.long)) in omega (arith, e)
]

pub capped_blank : (n : ℕ) → AreCapped (replicate n no_key)
capped_blank n k = let e : get_or (replicate n no_key) k no_key ≡ no_key = of_blank n k in omega (arith, e)

pub capped_lesser : (xs ys : List ℕ) → AreCapped xs → AreCapped (lesser_keys xs ys)
capped_lesser xs ys capped k = elim (cases_lt k (length xs)) [
  | inl within ↦ let p : get_or xs k no_key ≤ no_key = capped k in let q : get_or (lesser_keys xs ys) k no_key ≡ min (get_or xs k no_key) (get_or ys
      k no_key) = lesser_at xs ys k no_key within in omega arith
  | inr past ↦ let q : get_or (lesser_keys xs ys) k no_key ≡ no_key = past_end (lesser_keys xs ys) k no_key (omega (arith, length-lesser xs ys)) in omega arith
]

-- ---- one list of items after another
pub adds_none : (c : CameraValue) (keys : List ℕ) → Adds c [] keys keys
adds_none c keys before shows = shows ∙ ap (drawn_keys c) (sym (append-nil before))

pub adds_then : (c : CameraValue) (xs ys : List ItemValue) (old mid new : List ℕ) → Adds c xs old mid → Adds c ys mid new → Adds c (xs ++ ys) old new
adds_then c xs ys old mid new first second before shows = second (before ++ xs) (first before shows) ∙ ap (drawn_keys c) (append_assoc before xs ys)

-- ---- two lists of items, each on keys of its own
-- the least of two lists, one after the other
least_with : (n : ℕ) (ns ms : List ℕ) → lesser n (least (ns ++ ms)) ≡ lesser (lesser n (least ns)) (least ms)
least_with n [] ms = refl
least_with n (k ∷ ns) ms = ap (min n) (least_with k ns ms) ∙ lesser_min n (lesser k (least ns)) (least ms)
  where
    lesser_min : (a b : ℕ) (o : Option ℕ) → min a (lesser b o) ≡ lesser (min a b) o
    lesser_min a b None = refl
    lesser_min a b (Some c) = omega arith

capped_least : (n top : ℕ) (o : Option ℕ) → n ≤ top → lesser n o ≡ min n (unwrap_or o top)
capped_least n top None l = omega (arith, l)
capped_least n top (Some k) l = refl

least_both : (ns ms : List ℕ) (top : ℕ) → unwrap_or (least ns) top ≤ top → unwrap_or (least ms) top ≤ top
    → unwrap_or (least (ns ++ ms)) top ≡ min (unwrap_or (least ns) top) (unwrap_or (least ms) top)
least_both [] ms top a b = omega (arith, b)
least_both (n ∷ ns) ms top a b = least_with n ns ms ∙ capped_least (lesser n (least ns)) top (least ms) a

-- the keys of a pixel, of two lists of items
keys_both : (c : CameraValue) (xs ys : List ItemValue) (column row : ℕ)
    → pixel_keys c (xs ++ ys) column row ≡ pixel_keys c xs column row ++ pixel_keys c ys column row
keys_both c xs ys column row =
    ap (map (item_key c)) (filter-append (λ i. is_drawn c i && covers c i column row) xs ys)
    ∙ map-append (item_key c) (filter (λ i. is_drawn c i && covers c i column row) xs) (filter (λ i. is_drawn c i && covers c i column row) ys)

capped_at : (c : CameraValue) (xs : List ItemValue) (keys : List ℕ) (k : ℕ) → AreCapped keys → keys ≡ drawn_keys c xs → k < c.width * c.height
    → pixel_key c xs (k % c.width) (k / c.width) ≤ no_key
capped_at c xs keys k capped shows l =
    let size : length keys ≡ c.width * c.height = ap length shows ∙ length-drawn_keys c xs in
    subst (λ n. n ≤ no_key) (or_other keys k no_key 0 (omega (arith, l, size)) ∙ ap (λ (ks : List ℕ). get_or ks k 0) shows ∙ drawn_at c xs k l) (capped k)

pub drawn_both : (c : CameraValue) (xs ys : List ItemValue) (left right : List ℕ) → left ≡ drawn_keys c xs → right ≡ drawn_keys c ys → AreCapped left
    → AreCapped right
    → lesser_keys left right ≡ drawn_keys c (xs ++ ys)
drawn_both c xs ys left right p q a b =
    let size : length left ≡ c.width * c.height = ap length p ∙ length-drawn_keys c xs in
    let size' : length right ≡ c.width * c.height = ap length q ∙ length-drawn_keys c ys in
    ext_get_or 0 (lesser_keys left right) (drawn_keys c (xs ++ ys)) (length-lesser left right ∙ size ∙ sym (length-drawn_keys c (xs ++ ys))) (λ k l.
    let within : k < length left = omega (arith, length-lesser left right) in
    let in_all : k < c.width * c.height = omega (arith, size) in
    let here : get_or left k no_key ≡ pixel_key c xs (k % c.width) (k / c.width) = or_other left k no_key 0 within
    ∙ ap (λ (ks : List ℕ). get_or ks k 0) p ∙ drawn_at c xs k in_all in
    let there : get_or right k no_key ≡ pixel_key c ys (k % c.width) (k / c.width) = or_other right k no_key 0 (omega (arith, in_all, size'))
    ∙ ap (λ (ks : List ℕ). get_or ks k 0) q ∙ drawn_at c ys k in_all in
    lesser_at left right k 0 within ∙ (λ j. min (here j) (there j))
    ∙ sym (drawn_at c (xs ++ ys) k in_all ∙ ap (λ (ks : List ℕ). unwrap_or (least ks) no_key) (keys_both c xs ys (k % c.width) (k / c.width))
    ∙ least_both (pixel_keys c xs (k % c.width) (k / c.width)) (pixel_keys c ys (k % c.width) (k / c.width)) no_key (capped_at c xs left k a p
    in_all) (capped_at c ys right k b q in_all)))

-- so two seats together have drawn the items of both
pub adds_both : (c : CameraValue) (n : ℕ) (xs ys : List ItemValue) (old left right : List ℕ) → n ≡ c.width * c.height → AreCapped left → AreCapped right
    → Adds c xs old left → Adds c ys (replicate n no_key) right → Adds c (xs ++ ys) old (lesser_keys left right)
adds_both c n xs ys old left right size a b first second before shows =
    drawn_both c (before ++ xs) ys left right (first before shows) (second [] (nothing_drawn c n size)) a b ∙ ap (drawn_keys c) (append_assoc before xs ys)
