-- Of the open segments between two nodes the first of the cheapest is marked.
use Rattle.std.proofs.Common.{List, ℕ, zero, suc, Bool, true, false, IsTrue, ◌+◌, ◌<◌, ◌≤◌, ◌≡◌, ◌≢◌, ◌⊎◌, min, length, slice_index, get_or, inl, inr, refl, sym, ap, subst, arith, ◌∙◌}
use Rattle.std.proofs.Math.ListN.{set}
use Rattle.std.proofs.lemmas.Bool.{cases_eq, cases_lt, both_ways}
use Rattle.std.proofs.lemmas.List.{get_or_default, get_or-set_same, get_or-set_other}
use Rattle.std.proofs.lemmas.List.Elements.{All-get_or}
use Rattle.std.proofs.lemmas.List.Kept.{AllPairs-from_increasing}
use Rattle.loom_topology.specs.declared.ways.TheConstants.{NO_PRICE}
use Rattle.loom_topology.specs.Topology.{TopologyView, IsSound, IsSoundSegment, Leads, no_segment, segment_at, price_at, open_at}
use Rattle.loom_topology.specs.WiringTree.{other_end}
use Rattle.loom_topology.specs.Ways.{IsCheapest, MarksCheapest}
use Rattle.loom_topology.specs.WaysInside.{nth_at, nth_end, nth_price, IsClear, NotesLeast, MarksAt}
use Rattle.loom_topology.proofs.Leads.{open_among-below, open_among-passes, open_among-rising, below-from_Leads, Contains-from_Leads}
use Rattle.loom_topology.proofs.LeastLegal.{leads_below}
use Rattle.loom_topology.proofs.OpenAt.{open_leads, leads_to}
use Rattle.loom_topology.proofs.Sound.{sound-from}
use Rattle.loom_topology.proofs.Tied.{leads_or_not}

-- the k-th open segment at a node leads from it
pub nth-leads : (topology : TopologyView) (v k : ℕ) → k < length (open_at topology v) → Leads topology (nth_at topology v k) v (nth_end topology v k)
nth-leads topology v k within = open_leads topology (nth_at topology v k) v (open_among-passes topology.segments v k 0 within)

pub nth-below : (topology : TopologyView) (v k : ℕ) → k < length (open_at topology v) → nth_at topology v k < length topology.segments
nth-below topology v k within = open_among-below topology.segments v k 0 within

nth-rises : (topology : TopologyView) (v j k : ℕ) → j < k → k < length (open_at topology v) → nth_at topology v j < nth_at topology v k
nth-rises topology v j k before within =
    AllPairs-from_increasing (open_at topology v) (open_among-rising topology.segments v) j k 0 before within

-- a segment that leads from a node is one of those there
pub record IsNth (topology : TopologyView) (v s u : ℕ) : Type 0 where
  pub place : ℕ
  pub within : place < length (open_at topology v)
  pub same : nth_at topology v place ≡ s
  pub end : nth_end topology v place ≡ u
  pub price : nth_price topology v place ≡ price_at topology s

pub nth-from_leads : (topology : TopologyView) (s v u : ℕ) → Leads topology s v u → IsNth topology v s u
nth-from_leads topology s v u leads =
    let (k, below, at) = Contains-from_Leads topology s v u leads in
    let same : nth_at topology v k ≡ s = get_or_default (open_at topology v) k 0 s below ∙ at in
    record {
      place = k;
      within = below;
      same = same;
      end = ap (λ j. other_end (segment_at topology j) v) same ∙ leads_to topology s v u leads;
      price = ap (price_at topology) same;
    }

-- segments between the same two nodes
pub leads_alike : (topology : TopologyView) (s t v u : ℕ) → Leads topology s v u
    → Leads topology t (segment_at topology s).from (segment_at topology s).to → Leads topology t v u
leads_alike topology s t v u one other = (
  other.0,
  elim one.1 [
    | inl a ↦ elim other.1 [ inl b ↦ inl (b.0 ∙ a.0, b.1 ∙ a.1) | inr b ↦ inr (b.0 ∙ a.1, b.1 ∙ a.0) ]
    | inr a ↦ elim other.1 [ inl b ↦ inr (b.0 ∙ a.0, b.1 ∙ a.1) | inr b ↦ inl (b.0 ∙ a.1, b.1 ∙ a.0) ]
  ],
)

pub leads_between : (topology : TopologyView) (s t v u : ℕ) → Leads topology s v u → Leads topology t v u
    → Leads topology t (segment_at topology s).from (segment_at topology s).to
leads_between topology s t v u one other = (
  other.0,
  elim one.1 [
    | inl a ↦ elim other.1 [ inl b ↦ inl (b.0 ∙ sym a.0, b.1 ∙ sym a.1) | inr b ↦ inr (b.0 ∙ sym a.1, b.1 ∙ sym a.0) ]
    | inr a ↦ elim other.1 [ inl b ↦ inr (b.0 ∙ sym a.1, b.1 ∙ sym a.0) | inr b ↦ inl (b.0 ∙ sym a.0, b.1 ∙ sym a.1) ]
  ],
)

pub price_below : (topology : TopologyView) (s v u : ℕ) → IsSound topology → Leads topology s v u → price_at topology s ≤ 1000000
price_below topology s v u sound leads =
    (All-get_or (IsSoundSegment (length topology.nodes)) topology.segments s no_segment (below-from_Leads topology s v u leads)
    sound.segments).price_to

pub notes_none : (topology : TopologyView) (v : ℕ) (prices : List ℕ) → IsClear (length topology.nodes) prices → NotesLeast topology v 0 prices
notes_none topology v prices clear = record {
  below = λ k h. absurd (omega arith);
  from = λ u h. inl (clear u h);
}

-- one segment more is noted
pub notes_more : (topology : TopologyView) (v done to price : ℕ) (prices : List ℕ)
    → to ≡ nth_end topology v done → price ≡ nth_price topology v done → to < length prices
    → NotesLeast topology v done prices
    → NotesLeast topology v (done + 1) (set prices to (min (slice_index prices to) price))
notes_more topology v done to price prices to_is price_is range notes =
    let noted = min (slice_index prices to) price in
    let new = set prices to noted in
    let here : slice_index new to ≡ noted = get_or-set_same prices to noted 0 range in
    let other = λ (u : ℕ) (n : u ≢ to). get_or-set_other prices to u noted 0 n in
    let lower : (u : ℕ) → slice_index new u ≤ slice_index prices u = λ u. elim (cases_eq u to) [
      | inl e ↦ subst (λ (w : ℕ). slice_index new w ≤ slice_index prices w) (sym e) (omega (arith, here))
      | inr n ↦ omega (arith, other u n)
    ] in
    record {
      below = λ k h. elim (cases_eq k done) [
        | inl e ↦ subst (λ (j : ℕ). slice_index new (nth_end topology v j) ≤ nth_price topology v j) (sym e)
            (let at : slice_index new to ≡ slice_index new (nth_end topology v done) = ap (slice_index new) to_is in omega (arith, here, at, price_is))
        | inr n ↦ omega (arith, lower (nth_end topology v k), notes.below k (omega arith))
      ];
      from = λ u h. elim (cases_eq u to) [
        | inl e ↦
            (let at : slice_index new u ≡ noted = ap (slice_index new) e ∙ here in
            let was : slice_index prices u ≡ slice_index prices to = ap (slice_index prices) e in
            elim (cases_lt price (slice_index prices to)) [
              | inl lt ↦ inr (done, omega arith, sym (e ∙ to_is), omega (arith, at, price_is))
              | inr ge ↦ elim (notes.from u h) [
                | inl none ↦ inl (omega (arith, at, was))
                | inr p ↦ inr (p.0, omega (arith, p.1), p.2, omega (arith, p.3, at, was))
              ]
            ])
        | inr n ↦ elim (notes.from u h) [
          | inl none ↦ inl (other u n ∙ none)
          | inr p ↦ inr (p.0, omega (arith, p.1), p.2, p.3 ∙ sym (other u n))
        ]
      ];
    }

-- the marks, where the first open segments at a node were looked at; `best` are the prices that were noted there
pub record Marks (topology : TopologyView) (v done : ℕ) (best prices : List ℕ) (old marks : List Bool) : Type 0 where
  pub kept : (s : ℕ) → IsTrue (get_or old s false) → IsTrue (get_or marks s false)
  pub cheapest : (s : ℕ) → IsTrue (get_or marks s false) → IsTrue (get_or old s false) ⊎ IsCheapest topology s
  pub there : (k : ℕ) → k < done → IsCheapest topology (nth_at topology v k) → IsTrue (get_or marks (nth_at topology v k) false)
  pub taken : (u : ℕ) → u < length topology.nodes
      → ((slice_index prices u ≡ slice_index best u) × ((k : ℕ) → k < done → nth_end topology v k ≡ u → nth_price topology v k ≢ slice_index best u))
      ⊎ ((slice_index prices u ≡ NO_PRICE) × ((k : ℕ) × (k < done) × (nth_end topology v k ≡ u) × (nth_price topology v k ≡ slice_index best u)))

pub marks_none : (topology : TopologyView) (v : ℕ) (best : List ℕ) (old : List Bool) → Marks topology v 0 best best old old
marks_none topology v best old = record {
  kept = λ s marked. marked;
  cheapest = λ s marked. inl marked;
  there = λ k below. absurd (omega (arith, below));
  taken = λ u h. inl (refl, λ k below to. absurd (omega (arith, below)));
}

-- one segment more at the node
module _ (topology : TopologyView) (v done to price : ℕ) (best prices : List ℕ) (old marks : List Bool) (sound : IsSound topology)
    (notes : NotesLeast topology v (length (open_at topology v)) best)
    (inside : done < length (open_at topology v)) (to_is : to ≡ nth_end topology v done) (price_is : price ≡ nth_price topology v done)
    (m : Marks topology v done best prices old marks) where
  to_below : to < length topology.nodes
  to_below = rw to_is (leads_below topology (nth_at topology v done) v (nth_end topology v done) sound (nth-leads topology v done inside))

  lowest : slice_index best to ≤ price
  lowest = omega (arith, notes.below done inside, price_is, ap (slice_index best) to_is)

  cheap : price ≤ 1000000
  cheap = omega (arith, price_is, price_below topology (nth_at topology v done) v (nth_end topology v done) sound (nth-leads topology v done inside))

  -- an open segment at the node that leads to the same end
  alike : (k : ℕ) → k < length (open_at topology v) → nth_end topology v k ≡ to
      → Leads topology (nth_at topology v k) (segment_at topology (nth_at topology v done)).from (segment_at topology (nth_at topology v done)).to
  alike k within end =
      leads_between topology (nth_at topology v done) (nth_at topology v k) v (nth_end topology v done) (nth-leads topology v done inside)
      (subst (λ u. Leads topology (nth_at topology v k) v u) (end ∙ to_is) (nth-leads topology v k within))

  -- a segment that costs more than the least, or whose place is taken, is no cheapest one
  dearer : slice_index prices to ≢ price → IsCheapest topology (nth_at topology v done) → ⊥
  dearer differs is_cheapest = elim (m.taken to to_below) [
    | inl p ↦ elim (notes.from to to_below) [
      | inl none ↦ omega (arith, none, lowest, cheap)
      | inr f ↦ elim (is_cheapest.first (nth_at topology v f.0) (alike f.0 f.1 f.2)) [
        | inl less ↦ omega (arith, less, f.3, price_is, lowest)
        | inr same ↦ differs (omega (arith, p.0, f.3, same.0, price_is))
      ]
    ]
    | inr q ↦ (let f = q.1 in
        let within : f.0 < length (open_at topology v) = omega (arith, f.1, inside) in
        elim (is_cheapest.first (nth_at topology v f.0) (alike f.0 within f.2)) [
          | inl less ↦ omega (arith, less, f.3, price_is, lowest)
          | inr same ↦ omega (arith, same.1, nth-rises topology v f.0 done f.1 inside)
        ])
  ]

  pub marks_skip : slice_index prices to ≢ price → Marks topology v (done + 1) best prices old marks
  marks_skip differs = record {
    kept = m.kept;
    cheapest = m.cheapest;
    there = λ k below is_cheapest. elim (cases_eq k done) [
      | inl e ↦ absurd (dearer differs (subst (λ j. IsCheapest topology (nth_at topology v j)) e is_cheapest))
      | inr n ↦ m.there k (omega arith) is_cheapest
    ];
    taken = λ u h. elim (m.taken u h) [
      | inr p ↦ inr (p.0, (p.1.0, omega (arith, p.1.1), p.1.2, p.1.3))
      | inl p ↦ inl (
        p.0,
        λ k below leads_there. elim (cases_eq k done) [
          | inr n ↦ p.1 k (omega arith) leads_there
          | inl e ↦ λ same.
              (let there : to ≡ u = to_is ∙ (ap (nth_end topology v) (sym e) ∙ leads_there) in
              let cost : price ≡ nth_price topology v k = price_is ∙ ap (nth_price topology v) (sym e) in
              differs (ap (slice_index prices) there ∙ (p.0 ∙ (sym same ∙ sym cost))))
        ],
      )
    ];
  }

  -- the first segment that costs the least is the cheapest one
  first_least : slice_index prices to ≡ price → IsCheapest topology (nth_at topology v done)
  first_least same = record {
    is_open = (nth-leads topology v done inside).0;
    first = λ t leads.
        (let nth = nth-from_leads topology t v (nth_end topology v done)
        (leads_alike topology (nth_at topology v done) t v (nth_end topology v done) (nth-leads topology v done inside) leads) in
        let at_least : slice_index best to ≤ price_at topology t =
        omega (arith, notes.below nth.place nth.within, nth.price, ap (slice_index best) (nth.end ∙ sym to_is)) in
        elim (m.taken to to_below) [
          | inr q ↦ absurd (omega (arith, q.0, same, cheap))
          | inl p ↦ elim (cases_lt price (price_at topology t)) [
            | inl less ↦ inl (omega (arith, less, price_is))
            | inr no_less ↦
                (let least : price_at topology t ≡ slice_index best to = omega (arith, no_less, p.0, same, at_least) in
                elim (cases_lt nth.place done) [
                  | inl before ↦ absurd (p.1 nth.place before (nth.end ∙ sym to_is) (nth.price ∙ least))
                  | inr not_before ↦ inr (
                    omega (arith, price_is, least, p.0, same),
                    elim (cases_eq nth.place done) [
                      | inl e ↦ omega (arith, nth.same, ap (nth_at topology v) e)
                      | inr n ↦ omega (arith, nth.same, nth-rises topology v done nth.place (omega arith) nth.within)
                    ],
                  )
                ])
          ]
        ]);
  }

  pub marks_more : to < length prices → nth_at topology v done < length marks → slice_index prices to ≡ price
      → Marks topology v (done + 1) best (set prices to NO_PRICE) old (set marks (nth_at topology v done) true)
  marks_more range room same =
      let s = nth_at topology v done in
      let marked : get_or (set marks s true) s false ≡ true = get_or-set_same marks s true false room in
      let still : (t : ℕ) → IsTrue (get_or marks t false) → IsTrue (get_or (set marks s true) t false) = λ t was. elim (cases_eq t s) [
        | inl e ↦ ap (λ n. get_or (set marks s true) n false) e ∙ marked
        | inr n ↦ get_or-set_other marks s t true false n ∙ was
      ] in
      record {
        kept = λ t was. still t (m.kept t was);
        cheapest = λ t is. elim (cases_eq t s) [
          | inl e ↦ inr (subst (IsCheapest topology) (sym e) (first_least same))
          | inr n ↦ m.cheapest t (sym (get_or-set_other marks s t true false n) ∙ is)
        ];
        there = λ k below is_cheapest. elim (cases_eq k done) [
          | inl e ↦ ap (λ j. get_or (set marks s true) (nth_at topology v j) false) e ∙ marked
          | inr n ↦ still (nth_at topology v k) (m.there k (omega arith) is_cheapest)
        ];
        taken = λ u h. elim (cases_eq u to) [
          | inl e ↦ elim (m.taken u h) [
            | inl p ↦
                (let cleared : slice_index (set prices to NO_PRICE) u ≡ NO_PRICE =
                ap (slice_index (set prices to NO_PRICE)) e ∙ get_or-set_same prices to NO_PRICE 0 range in
                let best_is : price ≡ slice_index best u = sym same ∙ (ap (slice_index prices) (sym e) ∙ p.0) in
                inr (cleared, (done, omega arith, sym (e ∙ to_is), sym price_is ∙ best_is)))
            | inr p ↦ absurd (omega (arith, p.0, ap (slice_index prices) e, same, cheap))
          ]
          | inr n ↦
              (let stays = get_or-set_other prices to u NO_PRICE 0 n in
              elim (m.taken u h) [
                | inl p ↦ inl (
                  stays ∙ p.0,
                  λ k below leads_there. elim (cases_eq k done) [
                    | inr other ↦ p.1 k (omega arith) leads_there
                    | inl e ↦ absurd (n (sym (to_is ∙ (ap (nth_end topology v) (sym e) ∙ leads_there))))
                  ],
                )
                | inr p ↦ inr (stays ∙ p.0, (p.1.0, omega (arith, p.1.1), p.1.2, p.1.3))
              ])
        ];
      }

-- once all open segments at the node were looked at
module _ (topology : TopologyView) (v done : ℕ) (best prices : List ℕ) (old marks : List Bool)
    (all : length (open_at topology v) ≤ done)
    (notes : NotesLeast topology v (length (open_at topology v)) best) (m : Marks topology v done best prices old marks) where
  pub marks_clear : IsClear (length topology.nodes) prices
  marks_clear u range = elim (m.taken u range) [
    | inr p ↦ p.0
    | inl p ↦ elim (notes.from u range) [
      | inl none ↦ p.0 ∙ none
      | inr f ↦ absurd (p.1 f.0 (omega (arith, f.1, all)) f.2 f.3)
    ]
  ]

  pub marks_at : MarksAt topology v old marks
  marks_at = record {
    kept = m.kept;
    cheapest = m.cheapest;
    there = λ s u leads is_cheapest.
        (let nth = nth-from_leads topology s v u leads in
        subst (λ t. IsTrue (get_or marks t false)) nth.same
        (m.there nth.place (omega (arith, nth.within, all)) (subst (IsCheapest topology) (sym nth.same) is_cheapest)));
  }

-- the marks, once the segments at the first nodes were looked at
pub record MarksBelow (topology : TopologyView) (n : ℕ) (marks : List Bool) : Type 0 where
  pub cheapest : (s : ℕ) → IsTrue (get_or marks s false) → IsCheapest topology s
  pub there : (v s u : ℕ) → v < n → Leads topology s v u → IsCheapest topology s → IsTrue (get_or marks s false)

pub below_none : (topology : TopologyView) (marks : List Bool) → ((s : ℕ) → get_or marks s false ≡ false) → MarksBelow topology 0 marks
below_none topology marks clear = record {
  cheapest = λ s marked. absurd (both_ways (get_or marks s false) (clear s) marked);
  there = λ v s u below. absurd (omega (arith, below));
}

pub below_more : (topology : TopologyView) (n : ℕ) (old new : List Bool) → MarksBelow topology n old → MarksAt topology n old new
    → MarksBelow topology (n + 1) new
below_more topology n old new before at = record {
  cheapest = λ s marked. elim (at.cheapest s marked) [ inl was ↦ before.cheapest s was | inr is ↦ is ];
  there = λ v s u below leads is_cheapest. elim (cases_eq v n) [
    | inl e ↦ at.there s u (subst (λ w. Leads topology s w u) e leads) is_cheapest
    | inr other ↦ at.kept s (before.there v s u (omega arith) leads is_cheapest)
  ];
}

pub below_all : (topology : TopologyView) (n : ℕ) (marks : List Bool) → IsSound topology → length topology.nodes ≤ n
    → MarksBelow topology n marks → MarksCheapest topology marks
below_all topology n marks sound all below s within = (
  below.cheapest s,
  λ is_cheapest. below.there (segment_at topology s).from s (segment_at topology s).to
      (omega (arith, sound-from topology sound s within, all)) (is_cheapest.is_open, inl (refl, refl)) is_cheapest,
)

-- of the segments between two nodes, the best among one and the first n
record IsBest (topology : TopologyView) (v u s n : ℕ) : Type 0 where
  best : ℕ
  leads : Leads topology best v u
  cheap : price_at topology best ≤ price_at topology s
  first : (r : ℕ) → r < n → Leads topology r v u
      → (price_at topology best < price_at topology r) ⊎ ((price_at topology best ≡ price_at topology r) × (best ≤ r))

best_among : (topology : TopologyView) (v u s : ℕ) → Leads topology s v u → (n : ℕ) → IsBest topology v u s n
best_among topology v u s leads zero = record { best = s; leads = leads; cheap = omega arith; first = λ r below. absurd (omega (arith, below)) }
best_among topology v u s leads (suc n) =
    let b = best_among topology v u s leads n in
    elim (leads_or_not topology n v) [
      | inr fails ↦ keep b (λ here. absurd (fails (subst (λ w. Leads topology n v w) (sym (leads_to topology n v u here)) here)))
      | inl to_end ↦ elim (cases_eq (other_end (segment_at topology n) v) u) [
        | inr other ↦ keep b (λ here. absurd (other (leads_to topology n v u here)))
        | inl e ↦ elim (cases_lt (price_at topology n) (price_at topology b.best)) [
          | inl less ↦ record {
            best = n;
            leads = subst (λ w. Leads topology n v w) e to_end;
            cheap = omega (arith, less, b.cheap);
            first = λ r below there. elim (cases_eq r n) [
              | inl same ↦ inr (ap (price_at topology) (sym same), omega (arith, same))
              | inr n_other ↦ elim (b.first r (omega arith) there) [
                | inl lt ↦ inl (omega (arith, lt, less))
                | inr eq ↦ inl (omega (arith, eq.0, less))
              ]
            ];
          }
          | inr no_less ↦ elim (cases_lt (price_at topology b.best) (price_at topology n)) [
            | inl dear ↦ keep b (λ here. inl dear)
            | inr no_dear ↦ elim (cases_lt n b.best) [
              | inr after ↦ keep b (λ here. inr (omega arith, after))
              | inl before ↦ record {
                best = n;
                leads = subst (λ w. Leads topology n v w) e to_end;
                cheap = omega (arith, no_dear, b.cheap);
                first = λ r below there. elim (cases_eq r n) [
                  | inl same ↦ inr (ap (price_at topology) (sym same), omega (arith, same))
                  | inr n_other ↦ elim (b.first r (omega arith) there) [
                    | inl lt ↦ inl (omega (arith, lt, no_less, no_dear))
                    | inr eq ↦ inr (omega (arith, eq.0, no_less, no_dear), omega (arith, eq.1, before))
                  ]
                ];
              }
            ]
          ]
        ]
      ]
    ]
  where
    keep : (b : IsBest topology v u s n)
        → (Leads topology n v u → (price_at topology b.best < price_at topology n) ⊎ ((price_at topology b.best ≡ price_at topology n) × (b.best ≤ n)))
        → IsBest topology v u s (suc n)
    keep b last = record {
      best = b.best;
      leads = b.leads;
      cheap = b.cheap;
      first = λ r below there. elim (cases_eq r n) [
        | inl same ↦
            subst (λ k. (price_at topology b.best < price_at topology k) ⊎ ((price_at topology b.best ≡ price_at topology k) × (b.best ≤ k)))
            (sym same) (last (subst (λ k. Leads topology k v u) same there))
        | inr other ↦ b.first r (omega arith) there
      ];
    }

-- between two nodes that an open segment joins, one is the cheapest, and it costs no more
pub some_cheapest : (topology : TopologyView) (s v u : ℕ) → Leads topology s v u
    → (t : ℕ) × IsCheapest topology t × Leads topology t v u × (price_at topology t ≤ price_at topology s)
some_cheapest topology s v u leads =
    let b = best_among topology v u s leads (length topology.segments) in (
      b.best,
      record {
        is_open = b.leads.0;
        first = λ t there.
            (let here = leads_alike topology b.best t v u b.leads there in
            b.first t (below-from_Leads topology t v u here) here);
      },
      b.leads,
      b.cheap,
    )
