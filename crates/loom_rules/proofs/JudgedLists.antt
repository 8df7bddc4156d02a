-- Rules that are judged one after the other, over any boxes whose kind, limit and seen wires are given.
use Rattle.std.proofs.Common.{◌≡◌, ℕ, zero, suc, ◌+◌, ◌<◌, ◌≤◌, List, [], ◌∷◌, ◌++◌, take, drop, length, get_or, set, map, refl, sym, ◌∙◌, ap, subst, arith, add-one, drop-cons}
use Rattle.std.specs.Prelude.{Option, Some, None, slice_get, unwrap_or}
use Rattle.std.specs.List.{All, AllZip}
use Rattle.std.specs.Slice.{IsItemAt}
use Rattle.std.specs.Prelude.{option_copied}
use Rattle.std.specs.Borrow.{Bor}
use Rattle.std.proofs.lemmas.Option.{slice_get_past, slice_get_read}
use Rattle.std.proofs.lemmas.List.{take_all, take_more, take_more_set, take-append-drop, drop-set-lt, map-append, length-map, length-set, get_or-map, get_or-drop}
use Rattle.std.proofs.lemmas.List.Elements.{All-nil, All-push, All-append, All-drop, All-weaker, All-get_or}
use Rattle.loom_types.specs.declared.wire.Wire.{Wire}
use Rattle.loom_rules.specs.declared.report.Report.{Report}
use Rattle.loom_rules.specs.Judged.{Asked, asked, IsReportOf, IsFrontOf}

-- the list of what is asked is as long as the list of rules
length-asked : (limits : List ℕ) (rules : List Asked) → length (asked limits rules) ≡ length rules
length-asked limits [] = refl
length-asked [] (r ∷ rs) = refl
length-asked (l ∷ ls) (r ∷ rs) = ap (λ (n : ℕ). suc n) (length-asked ls rs)

-- each rule is asked under the limit at its place, or else its own
asked-at : (limits : List ℕ) (rules : List Asked) (i : ℕ) (d : Asked) → i < length rules
    → get_or (asked limits rules) i d
    ≡ record { kind = (get_or rules i d).kind; limit = unwrap_or (slice_get limits i) (get_or rules i d).limit }
asked-at limits [] i d h = absurd (omega (arith, h))
asked-at [] (r ∷ rs) i d h = refl
asked-at (l ∷ ls) (r ∷ rs) zero d h = refl
asked-at (l ∷ ls) (r ∷ rs) (suc i) d h = asked-at ls rs i d (omega arith)

-- the limit that was looked up
pub looked-up : (limits : List ℕ) (i : ℕ) (r : Option (Bor ℕ)) → IsItemAt limits i r → option_copied r ≡ slice_get limits i
looked-up limits i None h = sym (slice_get_past limits i h.3)
looked-up limits i (Some x) h = sym (slice_get_read limits (length limits) i x.now refl h.3.0 h.1)

-- one more report
zip-push : (wires : List Wire) (xs : List Asked) (ys : List Report) (x : Asked) (y : Report) → AllZip (IsReportOf wires) xs ys
    → IsReportOf wires x y → AllZip (IsReportOf wires) (xs ++ x ∷ []) (ys ++ y ∷ [])
zip-push wires [] [] x y z r = (r, tt)
zip-push wires [] (v ∷ vs) x y z r = absurd z
zip-push wires (u ∷ us) [] x y z r = absurd z
zip-push wires (u ∷ us) (v ∷ vs) x y z r = (z.0, zip-push wires us vs x y z.1 r)

module _ {B : Type 0} (old : List B) (kind limit : B → ℕ) (seen : B → List Wire) (wires : List Wire) where
  -- what is asked of a box
  abbrev pub ask : B → Asked
  ask b = record { kind = kind b; limit = limit b }

  -- the first i boxes were shown wires, and no other changed
  pub record IsShownTo (i : ℕ) (now : List B) : Type 0 where
    pub same_length : length now ≡ length old
    pub rest : drop i now ≡ drop i old
    pub kinds : map kind (take i now) ≡ map kind (take i old)
    pub front : All (λ b. IsFrontOf wires (seen b)) (take i now)

  pub shown-none : IsShownTo 0 old
  shown-none = record { same_length = refl; rest = refl; kinds = refl; front = All-nil (λ b. IsFrontOf wires (seen b)) }

  same-box : (i : ℕ) (now : List B) (d : B) → drop i now ≡ drop i old → get_or now i d ≡ get_or old i d
  same-box i now d e =
      let z : i + 0 ≡ i = omega arith in
      ap (λ (n : ℕ). get_or now n d) (sym z) ∙ sym (get_or-drop i now 0 d) ∙ ap (λ (l : List B). get_or l 0 d) e
      ∙ get_or-drop i old 0 d ∙ ap (λ (n : ℕ). get_or old n d) z

  pub shown-more : (i : ℕ) (now : List B) (b b' : B) → i < length now → b ≡ get_or now i b → IsShownTo i now
      → kind b' ≡ kind b → IsFrontOf wires (seen b') → IsShownTo (i + 1) (set now i b')
  shown-more i now b b' h at so k f =
      let h' : i < length old = omega (arith, so.same_length) in
      let grown : take (i + 1) (set now i b') ≡ take i now ++ b' ∷ [] = take_more_set now i b' h in
      let was : get_or old i b ≡ b = sym (same-box i now b so.rest) ∙ sym at in
      record {
        same_length = length-set now i b' ∙ so.same_length;
        rest =
            drop-set-lt (i + 1) now i b' (omega arith)
            ∙ tail now (get_or now i b) h
            ∙ ap (λ (l : List B). drop 1 l) so.rest
            ∙ sym (tail old (get_or old i b) h');
        kinds =
            ap (map kind) grown ∙ map-append kind (take i now) (b' ∷ [])
            ∙ ap (λ (l : List ℕ). l ++ kind b' ∷ []) so.kinds
            ∙ ap (λ (n : ℕ). map kind (take i old) ++ n ∷ []) (k ∙ ap kind (sym was))
            ∙ sym (map-append kind (take i old) (get_or old i b ∷ []))
            ∙ sym (ap (map kind) (take_more old i b h'));
        front =
            subst (All (λ b. IsFrontOf wires (seen b))) (sym grown)
            (All-push (λ b. IsFrontOf wires (seen b)) (take i now) b' so.front f);
      } where
        tail : (l : List B) (d : B) → i < length l → drop (i + 1) l ≡ drop 1 (drop i l)
        tail l d short = rw add-one (sym (ap (λ (x : List B). drop 1 x) (drop-cons l i d short)))

  -- so far each box keeps its kind and has seen a front of the wires
  pub shown-kinds : (i : ℕ) (now : List B) → IsShownTo i now → map kind now ≡ map kind old
  shown-kinds i now so =
      ap (map kind) (sym (take-append-drop i now)) ∙ map-append kind (take i now) (drop i now)
      ∙ ap (λ (l : List ℕ). l ++ map kind (drop i now)) so.kinds
      ∙ ap (λ (l : List B). map kind (take i old) ++ map kind l) so.rest
      ∙ sym (map-append kind (take i old) (drop i old)) ∙ ap (map kind) (take-append-drop i old)

  pub shown-front : (i : ℕ) (now : List B) → IsShownTo i now → All (λ b. seen b ≡ []) old
      → All (λ b. IsFrontOf wires (seen b)) now
  shown-front i now so unseen =
      subst (All (λ b. IsFrontOf wires (seen b))) (take-append-drop i now)
      (All-append (λ b. IsFrontOf wires (seen b)) (take i now) (drop i now) so.front
      (subst (All (λ b. IsFrontOf wires (seen b))) (sym so.rest)
      (All-weaker (λ b. seen b ≡ []) (λ b. IsFrontOf wires (seen b)) (λ b e. (wires, sym (ap (λ (l : List Wire). l ++ wires) e)))
      (drop i old) (All-drop (λ b. seen b ≡ []) i old unseen))))

  -- a box that was not yet shown wires has seen none
  pub not-yet : (i : ℕ) (now : List B) (b : B) → i < length now → b ≡ get_or now i b → IsShownTo i now
      → All (λ b. seen b ≡ []) old → seen b ≡ []
  not-yet i now b h at so unseen =
      let is : b ≡ get_or old i b = at ∙ same-box i now b so.rest in
      ap seen is ∙ All-get_or (λ b. seen b ≡ []) old i b (omega (arith, so.same_length)) unseen

  -- the first i boxes are judged
  pub record AreJudged (limits : List ℕ) (i : ℕ) (now : List B) (reports : List Report) : Type 0 where
    pub shown : IsShownTo i now
    pub seen_all : All (λ b. seen b ≡ wires) (take i now)
    pub asks : map ask (take i now) ≡ take i (asked limits (map ask old))
    pub told : AllZip (IsReportOf wires) (take i (asked limits (map ask old))) reports

  pub judged-none : (limits : List ℕ) → AreJudged limits 0 old []
  judged-none limits = record {
    shown = shown-none;
    seen_all = All-nil (λ b. seen b ≡ wires);
    asks = refl;
    told = tt;
  }

  -- a list of reports that is empty
  pub judged-start : (limits : List ℕ) (reports : List Report) → reports ≡ [] → AreJudged limits 0 old reports
  judged-start limits reports e = subst (λ (l : List Report). AreJudged limits 0 old l) (sym e) (judged-none limits)

  judged-more : (limits : List ℕ) (i : ℕ) (now : List B) (reports : List Report) (b b' : B) (report : Report)
      → i < length now → b ≡ get_or now i b → AreJudged limits i now reports
      → kind b' ≡ kind b → IsFrontOf wires (seen b') → seen b' ≡ wires → limit b' ≡ unwrap_or (slice_get limits i) (limit b)
      → IsReportOf wires (record { kind = kind b; limit = unwrap_or (slice_get limits i) (limit b) }) report
      → AreJudged limits (i + 1) (set now i b') (reports ++ report ∷ [])
  judged-more limits i now reports b b' report h at so k f s l r =
      let h' : i < length old = omega (arith, so.shown.same_length) in
      let grown : take (i + 1) (set now i b') ≡ take i now ++ b' ∷ [] = take_more_set now i b' h in
      let was : get_or old i b ≡ b = sym (same-box i now b so.shown.rest) ∙ sym at in
      let long : i < length (map ask old) = omega (arith, length-map old ask, h') in
      let longer : i < length (asked limits (map ask old)) = omega (arith, length-asked limits (map ask old), long) in
      let here : get_or (map ask old) i (ask b) ≡ ask b = get_or-map ask old i b (ask b) h' ∙ ap ask was in
      let asks_one : get_or (asked limits (map ask old)) i (ask b)
      ≡ record { kind = kind b; limit = unwrap_or (slice_get limits i) (limit b) } =
      asked-at limits (map ask old) i (ask b) long
      ∙ ap (λ (a : Asked). record { kind = a.kind; limit = unwrap_or (slice_get limits i) a.limit }) here in
      let next : take (i + 1) (asked limits (map ask old))
      ≡ take i (asked limits (map ask old)) ++ record { kind = kind b; limit = unwrap_or (slice_get limits i) (limit b) } ∷ [] =
      take_more (asked limits (map ask old)) i (ask b) longer
      ∙ ap (λ (a : Asked). take i (asked limits (map ask old)) ++ a ∷ []) asks_one in
      record {
        shown = shown-more i now b b' h at so.shown k f;
        seen_all =
            subst (All (λ b. seen b ≡ wires)) (sym grown) (All-push (λ b. seen b ≡ wires) (take i now) b' so.seen_all s);
        asks =
            ap (map ask) grown ∙ map-append ask (take i now) (b' ∷ [])
            ∙ ap (λ (l : List Asked). l ++ ask b' ∷ []) so.asks
            ∙ ap (λ (a : Asked). take i (asked limits (map ask old)) ++ a ∷ []) (same_ask k l)
            ∙ sym next;
        told =
            subst (λ (l : List Asked). AllZip (IsReportOf wires) l (reports ++ report ∷ [])) (sym next)
            (zip-push wires (take i (asked limits (map ask old))) reports
            (record { kind = kind b; limit = unwrap_or (slice_get limits i) (limit b) }) report so.told r);
      } where
        same_ask : {n m : ℕ} → kind b' ≡ n → limit b' ≡ m → ask b' ≡ record { kind = n; limit = m }
        same_ask e f = λ i. record { kind = e i; limit = f i }

  -- the same, by the limit that was looked up
  pub judged-next : (limits : List ℕ) (i : ℕ) (now : List B) (reports reports' : List Report) (b b' : B) (report : Report) (o : Option ℕ)
      → o ≡ slice_get limits i → reports' ≡ reports ++ report ∷ [] → i < length now → b ≡ get_or now i b
      → AreJudged limits i now reports
      → kind b' ≡ kind b → IsFrontOf wires (seen b') → seen b' ≡ wires → limit b' ≡ unwrap_or o (limit b)
      → IsReportOf wires (record { kind = kind b; limit = unwrap_or o (limit b) }) report
      → AreJudged limits (i + 1) (set now i b') reports'
  judged-next limits i now reports reports' b b' report o e pushed h at so k f s l r =
      subst (λ (rs : List Report). AreJudged limits (i + 1) (set now i b') rs) (sym pushed)
      (judged-more limits i now reports b b' report h at so k f s (l ∙ ap (λ (x : Option ℕ). unwrap_or x (limit b)) e)
      (subst (λ (x : Option ℕ). IsReportOf wires (record { kind = kind b; limit = unwrap_or x (limit b) }) report) e r))

  -- a box that was shown wires and then gave up
  pub stopped-kinds : (i : ℕ) (now : List B) (b b' : B) → i < length now → b ≡ get_or now i b → IsShownTo i now
      → kind b' ≡ kind b → IsFrontOf wires (seen b') → map kind (set now i b') ≡ map kind old
  stopped-kinds i now b b' h at so k f = shown-kinds (i + 1) (set now i b') (shown-more i now b b' h at so k f)

  pub stopped-front : (i : ℕ) (now : List B) (b b' : B) → i < length now → b ≡ get_or now i b → IsShownTo i now
      → kind b' ≡ kind b → IsFrontOf wires (seen b') → All (λ b. seen b ≡ []) old
      → All (λ b. IsFrontOf wires (seen b)) (set now i b')
  stopped-front i now b b' h at so k f unseen = shown-front (i + 1) (set now i b') (shown-more i now b b' h at so k f) unseen

  -- all boxes are judged
  pub judged-seen : (limits : List ℕ) (i : ℕ) (now : List B) (reports : List Report) → length now ≤ i
      → AreJudged limits i now reports → All (λ b. seen b ≡ wires) now
  judged-seen limits i now reports h so = subst (All (λ b. seen b ≡ wires)) (take_all i now h) so.seen_all

  all-asked : (limits : List ℕ) (i : ℕ) (now : List B) → length now ≤ i → length now ≡ length old
      → take i (asked limits (map ask old)) ≡ asked limits (map ask old)
  all-asked limits i now h e =
      take_all i (asked limits (map ask old)) (omega (arith, length-asked limits (map ask old), length-map old ask))

  pub judged-limits : (limits : List ℕ) (i : ℕ) (now : List B) (reports : List Report) → length now ≤ i
      → AreJudged limits i now reports → map ask now ≡ asked limits (map ask old)
  judged-limits limits i now reports h so =
      ap (map ask) (sym (take_all i now h)) ∙ so.asks ∙ all-asked limits i now h so.shown.same_length

  pub judged-reports : (limits : List ℕ) (i : ℕ) (now : List B) (reports : List Report) → length now ≤ i
      → AreJudged limits i now reports → AllZip (IsReportOf wires) (asked limits (map ask old)) reports
  judged-reports limits i now reports h so =
      subst (λ (l : List Asked). AllZip (IsReportOf wires) l reports) (all-asked limits i now h so.shown.same_length) so.told
