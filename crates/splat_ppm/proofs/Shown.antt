-- What a canvas keeps as items are drawn on it.
use Rattle.std.proofs.Common.{◌≡◌, ℕ, ◌*◌, ◌/◌, ◌%◌, ◌^◌, ◌<◌, ◌≤◌, min, Bool, true, false, ◌&&◌, cond, List, [], ◌∷◌, ◌++◌, map, filter, length, get_or, replicate, Option, Some, None, unwrap_or, ap, ◌∙◌, sym, refl, arith, if◌then◌else◌}
use Rattle.std.proofs.lemmas.List.{ext_get_or, length-map, length-replicate, get_or-replicate, map-append, append-nil}
use Rattle.std.specs.List.{All}
use Rattle.std.proofs.lemmas.List.Elements.{filter-append, All-nil, All-cons}
use Rattle.octree_model.specs.Numbers.{up_to, least, lesser}
use Rattle.octree_model.proofs.NumberLaws.{length-up_to, at_up_to}
use Rattle.picture_model.specs.Cameras.{CameraValue}
use Rattle.picture_model.specs.Frames.{is_drawn, covers, item_key, pixel_keys, pixel_colour}
use Rattle.picture_model.specs.Items.{ItemValue}
use Rattle.splat_ppm.specs.Canvases.{no_key, pixel_key, drawn_keys}
use Rattle.splat_ppm.specs.Lowering.{AreLowered}

-- ---- the least of a list with one number more
least_after : (n : ℕ) (ns : List ℕ) (k : ℕ) → lesser n (least (ns ++ k ∷ [])) ≡ min (lesser n (least ns)) k
least_after n [] k = refl
least_after n (m ∷ ns) k = let rest : lesser m (least (ns ++ k ∷ [])) ≡ min (lesser m (least ns)) k = least_after m ns k in ap (min n) rest ∙ omega arith

least_pushed : (ns : List ℕ) (k top : ℕ) → k ≤ top → unwrap_or (least (ns ++ k ∷ [])) top ≡ min (unwrap_or (least ns) top) k
least_pushed [] k top l = omega arith
least_pushed (n ∷ ns) k top l = least_after n ns k

-- ---- the keys of a pixel
-- an item that is not drawn there changes nothing
keys_kept : (c : CameraValue) (items : List ItemValue) (i : ItemValue) (column row : ℕ) → (is_drawn c i && covers c i column row) ≡ false
    → pixel_keys c (items ++ i ∷ []) column row ≡ pixel_keys c items column row
keys_kept c items i column row never =
    ap (map (item_key c)) (filter-append (λ x. is_drawn c x && covers c x column row) items (i ∷ [])
    ∙ ap (λ b. filter (λ x. is_drawn c x && covers c x column row) items ++ cond b (i ∷ []) []) never ∙ append-nil _)

-- an item that is drawn there adds its key
keys_added : (c : CameraValue) (items : List ItemValue) (i : ItemValue) (column row : ℕ) → (is_drawn c i && covers c i column row) ≡ true
    → pixel_keys c (items ++ i ∷ []) column row ≡ pixel_keys c items column row ++ item_key c i ∷ []
keys_added c items i column row here =
    ap (map (item_key c)) (filter-append (λ x. is_drawn c x && covers c x column row) items (i ∷ [])
    ∙ ap (λ b. filter (λ x. is_drawn c x && covers c x column row) items ++ cond b (i ∷ []) []) here)
    ∙ map-append (item_key c) (filter (λ x. is_drawn c x && covers c x column row) items) (i ∷ [])

pixel_drawn : (c : CameraValue) (items : List ItemValue) (i : ItemValue) (column row : ℕ) (b : Bool) → is_drawn c i ≡ true → covers c i column row ≡ b → item_key c i ≤ no_key
    → pixel_key c (items ++ i ∷ []) column row ≡ (if b then min (pixel_key c items column row) (item_key c i) else pixel_key c items column row)
pixel_drawn c items i column row true drawn here small =
    ap (λ (ks : List ℕ). unwrap_or (least ks) no_key) (keys_added c items i column row (λ j. drawn j && here j)) ∙ least_pushed (pixel_keys c items column row) (item_key c i) no_key small
pixel_drawn c items i column row false drawn here small =
    ap (λ (ks : List ℕ). unwrap_or (least ks) no_key) (keys_kept c items i column row (λ j. drawn j && here j))

-- ---- the keys of a canvas
pub drawn_at : (c : CameraValue) (items : List ItemValue) (k : ℕ) → k < c.width * c.height → get_or (drawn_keys c items) k 0 ≡ pixel_key c items (k % c.width) (k / c.width)
unfolding drawn_keys
drawn_at c items k l = at_up_to (λ n. pixel_key c items (n % c.width) (n / c.width)) (c.width * c.height) k 0 l

pub length-drawn_keys : (c : CameraValue) (items : List ItemValue) → length (drawn_keys c items) ≡ c.width * c.height
unfolding drawn_keys
length-drawn_keys c items = length-map (up_to (c.width * c.height)) (λ n. pixel_key c items (n % c.width) (n / c.width)) ∙ length-up_to (c.width * c.height)

-- on an empty canvas no pixel has the key of an item
pub nothing_drawn : (c : CameraValue) (n : ℕ) → n ≡ c.width * c.height → replicate n no_key ≡ drawn_keys c []
nothing_drawn c n size = ext_get_or 0 (replicate n no_key) (drawn_keys c []) (length-replicate n no_key ∙ size ∙ sym (length-drawn_keys c []))
    (λ k l. let small : k < n = omega (arith, length-replicate n no_key) in get_or-replicate n k no_key 0 small ∙ sym (drawn_at c [] k (omega (arith, size))))

-- one item more, where it is drawn
pub one_drawn : (c : CameraValue) (items : List ItemValue) (i : ItemValue) (old new : List ℕ) → is_drawn c i ≡ true → item_key c i ≤ no_key
    → old ≡ drawn_keys c items → AreLowered (λ k. covers c i (k % c.width) (k / c.width)) (item_key c i) old new → new ≡ drawn_keys c (items ++ i ∷ [])
one_drawn c items i old new drawn small shows lowered =
    let size : length old ≡ c.width * c.height = ap length shows ∙ length-drawn_keys c items in
    ext_get_or 0 new (drawn_keys c (items ++ i ∷ [])) (lowered.long ∙ size ∙ sym (length-drawn_keys c (items ++ i ∷ []))) (λ k l.
    let here : Bool = covers c i (k % c.width) (k / c.width) in
    let within : k < c.width * c.height = omega (arith, lowered.long, size) in
    let before : get_or old k 0 ≡ pixel_key c items (k % c.width) (k / c.width) = ap (λ (ks : List ℕ). get_or ks k 0) shows ∙ drawn_at c items k within in
    lowered.at k (omega (arith, size)) ∙ ap (λ n. if here then min n (item_key c i) else n) before
    ∙ sym (drawn_at c (items ++ i ∷ []) k within ∙ pixel_drawn c items i (k % c.width) (k / c.width) here drawn refl small))

-- one item more, where it is not drawn
pub none_drawn : (c : CameraValue) (items : List ItemValue) (i : ItemValue) → is_drawn c i ≡ false → drawn_keys c items ≡ drawn_keys c (items ++ i ∷ [])
none_drawn c items i never = ext_get_or 0 (drawn_keys c items) (drawn_keys c (items ++ i ∷ [])) (length-drawn_keys c items ∙ sym (length-drawn_keys c (items ++ i ∷ []))) (λ k l.
    let within : k < c.width * c.height = omega (arith, length-drawn_keys c items) in
    drawn_at c items k within
    ∙ ap (λ (ks : List ℕ). unwrap_or (least ks) no_key) (sym (keys_kept c items i (k % c.width) (k / c.width) (ap (λ b. b && covers c i (k % c.width) (k / c.width)) never)))
    ∙ sym (drawn_at c (items ++ i ∷ []) k within))

-- ---- colours
colour_of : (o : Option ℕ) → unwrap_or o no_key % 2 ^ 24 ≡ unwrap_or o 0 % 2 ^ 24
colour_of None = refl
colour_of (Some k) = refl

map-map : (f g : ℕ → ℕ) (ns : List ℕ) → map f (map g ns) ≡ map (λ n. f (g n)) ns
map-map f g [] = refl
map-map f g (n ∷ ns) = ap (λ (l : List ℕ). f (g n) ∷ l) (map-map f g ns)

-- each is below 2^24
pub colours_small : (keys : List ℕ) → All (λ rgb. rgb < 2 ^ 24) (map (λ key. key % 2 ^ 24) keys)
colours_small [] = All-nil (λ rgb. rgb < 2 ^ 24)
colours_small (k ∷ ks) = All-cons (λ rgb. rgb < 2 ^ 24) (k % 2 ^ 24) (map (λ key. key % 2 ^ 24) ks) (omega arith) (colours_small ks)

-- the colours of a canvas's keys are those of the frame
pub colours_drawn : (c : CameraValue) (items : List ItemValue) → map (λ key. key % 2 ^ 24) (drawn_keys c items) ≡ map (λ k. pixel_colour c items (k % c.width) (k / c.width)) (up_to (c.width * c.height))
unfolding drawn_keys
colours_drawn c items =
    map-map (λ key. key % 2 ^ 24) (λ k. pixel_key c items (k % c.width) (k / c.width)) (up_to (c.width * c.height))
    ∙ (λ j. map (λ k. colour_of (least (pixel_keys c items (k % c.width) (k / c.width))) j) (up_to (c.width * c.height)))
