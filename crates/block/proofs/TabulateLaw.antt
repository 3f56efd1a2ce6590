-- The block, filled from the tables of a sheet.
use Rattle.std.specs.Prelude.{◌+◌, ◌-◌, ◌/◌, ◌%◌, ◌<◌, ◌≤◌, ◌≡◌, ◌⊎◌, ◌++◌}
use Rattle.lists.specs.Proving.{arith, ℕ, refl, sym, ◌∙◌, ap, Bool, true, false, cond, inl, inr, ⊎_elim, by_cases, some, none, List, length, get_or, set, drop, replicate, length-set, get_or-replicate, List·getD-eq-default, get_or-set_same, get_or-set_other, ltb, dec_lt}
use lib.ListN.{get_or-append, length-map}
use lib.Seq.{get_or-append-add, get_or-drop}
use Rattle.lists.specs.Lists.{maybe, up_to}
use Rattle.lists.specs.laws.ListLaw.{length-up_to}
use Rattle.sheet.specs.declared.Summary.{Summary}
use Rattle.sheet.specs.Sheet.{Sheet, choices_at, waking_choices, waking_slots}
use Rattle.sheet.specs.Reading.{summary_of}
use Rattle.sheet.specs.declared.Tables.{Tables}
use Rattle.sheet.specs.Tables.{tables_of, table, by_pair, first_fault}
use Rattle.sheet.specs.laws.TablesLaw.{table_at}
use Rattle.sheet.specs.laws.WakingLaw.{wakings-at}
use Rattle.model.specs.Mutant.{slots, start_slot}
use Rattle.model.proofs.laws.SuspectLaw.{slot-count}
use Rattle.block.specs.declared.sites.Sites.{Sites}
use Rattle.block.specs.Sites.{waking_first, open_choices, Numbered}
use Rattle.block.specs.Packing.{Copied, FirstCopied, ChoicesCopied}
use Rattle.block.specs.Tabled.{Read, Tabled}
use Rattle.block.specs.laws.TabledLaw.{get_d_default, first-less, slot-few, slot-some}
use Rattle.block.proofs.SlotLaw.{Sited, first, few-slots, sited}

-- the numbers of choices with 1 past the last
slots_at : (s : List ℕ) (i : ℕ) → length s ≤ 32 → i < 32 → get_or (s ++ drop (length s) (replicate 32 1)) i 0 ≡ get_or s i 1
slots_at s i l h =
    by_cases (dec_lt i (length s))
    (λ k. get_or-append s (drop (length s) (replicate 32 1)) 0 i k ∙ get_d_default s i 0 1 k)
    (λ k.
    let e : i ≡ length s + (i - length s) = omega arith in
    ap (λ (j : ℕ). get_or (s ++ drop (length s) (replicate 32 1)) j 0) e
    ∙ get_or-append-add s (drop (length s) (replicate 32 1)) (i - length s) 0
    ∙ get_or-drop (length s) (replicate 32 1) (i - length s) 0
    ∙ ap (λ (j : ℕ). get_or (replicate 32 1) j 0) (sym e)
    ∙ get_or-replicate {A = ℕ} 32 i 1 0 h
    ∙ sym (List·getD-eq-default s 1 (omega arith)))

table-long : (f : ℕ → ℕ) → length (table f) ≡ 256
table-long f = length-map (up_to 256) f ∙ length-up_to 256

-- what the reading layer hands over
module _ {sh : Sheet} {size : Summary} {tables : Tables} (rd : Read sh size tables) (n k : ℕ) (en : n ≡ size.states) (ek : k ≡ size.inputs) where
  states-are : size.states ≡ sh.size.states
  unfolding summary_of
  states-are = ap (λ (z : Summary). z.states) rd.summary

  inputs_are : size.inputs ≡ sh.size.inputs
  unfolding summary_of
  inputs_are = ap (λ (z : Summary). z.inputs) rd.summary

  choices-are : tables.choices ≡ by_pair (choices_at sh)
  unfolding tables_of
  choices-are = ap (λ (t : Tables). t.choices) rd.tabled

  waking-are : tables.waking ≡ waking_choices sh
  unfolding tables_of
  waking-are = ap (λ (t : Tables). t.waking) rd.tabled

  -- the numbers that stand first are those of the waking state
  first-are : waking_first tables.waking ≡ first sh
  unfolding waking_slots
  first-are = rw waking-are refl

  pub few : (n ≤ 16) × (length (open_choices (waking_first tables.waking) n k tables.choices 256) ≤ 32)
  few = rw (en ∙ states-are, ek ∙ inputs_are, first-are) (rd.formed.size.states.few, few-slots sh rd.formed tables.choices choices-are)

  -- all of it, in the order of the code
  module _ {m₀ m₁ m₂ m₃ m₄ m₅ m₆ m₇ m₈ m₉ : List ℕ} (r : Sites) (ls : length r.site ≡ 256)
      (num : Numbered (waking_first tables.waking) n k tables.choices r) (site : ℕ) (waked : site ≡ cond (ltb 1 tables.waking) 0 255)
      (a : Copied m₀ m₁ 0 tables.output (length tables.output)) (b : Copied m₁ m₂ 256 tables.target (length tables.target)) (c : FirstCopied m₂ m₃ tables.first 256)
      (d : Copied m₃ m₄ 768 tables.mutated (length tables.mutated)) (e : Copied m₄ m₅ 1024 tables.diverted (length tables.diverted)) (f : ChoicesCopied m₅ m₆ r.slots 32)
      (g : Copied m₆ m₇ 1315 r.site (length r.site)) (h : Copied m₇ m₈ 1572 tables.wakings (length tables.wakings)) (i : Copied m₈ m₉ 1588 r.pairs (length r.pairs)) where
    lo : length tables.output ≡ 256
    unfolding tables_of
    lo = rw rd.tabled (table-long _)

    lt : length tables.target ≡ 256
    unfolding tables_of
    lt = rw rd.tabled (table-long _)

    lm : length tables.mutated ≡ 256
    unfolding tables_of
    lm = rw rd.tabled (table-long _)

    ld : length tables.diverted ≡ 256
    unfolding tables_of
    ld = rw rd.tabled (table-long _)

    lw : length tables.wakings ≡ 16
    unfolding tables_of
    lw = rw rd.tabled (length-map (up_to 16) _ ∙ length-up_to 16)

    abbrev sized : List ℕ
    sized = set (set (set m₉ 1312 size.states) 1313 size.inputs) 1314 r.count

    abbrev end : List ℕ
    end = set sized 1571 site

    -- what the last four writes leave
    from₉ : (j : ℕ) → (j < 1312) ⊎ (1315 ≤ j) → (j ≡ 1571 → ⊥) → get_or end j 0 ≡ get_or m₉ j 0
    from₉ j l n =
        get_or-set_other sized 1571 j site 0 n
        ∙ get_or-set_other (set (set m₉ 1312 size.states) 1313 size.inputs) 1314 j r.count 0 (out 2 (omega arith))
        ∙ get_or-set_other (set m₉ 1312 size.states) 1313 j size.inputs 0 (out 1 (omega arith))
        ∙ get_or-set_other m₉ 1312 j size.states 0 (out 0 (omega arith))
      where
        out : (t : ℕ) → t < 3 → j ≡ 1312 + t → ⊥
        out t lt s = ⊎_elim (λ x. omega (arith, s, x)) (λ x. omega (arith, s, x, lt)) l

    from₈ : (j : ℕ) → (j < 1312) ⊎ (1315 ≤ j) → (j ≡ 1571 → ⊥) → j < 1588 → get_or end j 0 ≡ get_or m₈ j 0
    from₈ j l n h = from₉ j l n ∙ i.others j (inl h)

    from₇ : (j : ℕ) → (j < 1312) ⊎ (1315 ≤ j) → j < 1571 → get_or end j 0 ≡ get_or m₇ j 0
    from₇ j l k = from₈ j l (λ s. omega (arith, s, k)) (omega (arith, k)) ∙ h.others j (inl (omega (arith, k)))

    from₆ : (j : ℕ) → j < 1312 → get_or end j 0 ≡ get_or m₆ j 0
    from₆ j l = from₇ j (inl l) (omega arith) ∙ g.others j (inl (omega arith))

    from₅ : (j : ℕ) → j < 1280 → get_or end j 0 ≡ get_or m₅ j 0
    from₅ j l = from₆ j (omega arith) ∙ f.others j (inl l)

    from₄ : (j : ℕ) → j < 1024 → get_or end j 0 ≡ get_or m₄ j 0
    from₄ j l = from₅ j (omega arith) ∙ e.others j (inl l)

    from₃ : (j : ℕ) → j < 768 → get_or end j 0 ≡ get_or m₃ j 0
    from₃ j l = from₄ j (omega arith) ∙ d.others j (inl l)

    from₂ : (j : ℕ) → j < 512 → get_or end j 0 ≡ get_or m₂ j 0
    from₂ j l = from₃ j (omega arith) ∙ c.others j (inl l)

    from₁ : (j : ℕ) → j < 256 → get_or end j 0 ≡ get_or m₁ j 0
    from₁ j l = from₂ j (omega arith) ∙ b.others j (inl l)

    numbers : Sited sh r
    numbers = sited sh rd.formed tables.choices choices-are r (rw (en ∙ states-are, ek ∙ inputs_are, first-are) at num)

    site-of : (c : Bool) → cond c 0 255 ≡ maybe (cond c (some 0) none) 255 (λ (j : ℕ). j)
    site-of true = refl
    site-of false = refl

    pub tabled : Tabled sh end
    unfolding tables_of start_slot
    tabled =
        record {
          formed = rd.formed;
          outputs = λ j l. let z : 0 + j ≡ j = omega arith in from₁ j l ∙ rw z at (a.same j (rw lo l)) ∙ rw rd.tabled (table_at _ j l);
          targets = λ j l. from₂ (256 + j) (omega arith) ∙ b.same j (rw lt l) ∙ rw rd.tabled (table_at _ j l);
          sites = λ j l. from₇ (1315 + j) (inr (omega arith)) (omega arith) ∙ g.same j (rw ls l) ∙ numbers.placed j l;
          firsts = λ j l.
              let is : get_or tables.first j 0 ≡ first_fault sh.faults (j / 16) (j % 16) = rw rd.tabled (table_at _ j l) in
              from₃ (512 + j) (omega arith) ∙ c.same j l (rw is (first-less sh rd.formed (j / 16) (j % 16))) ∙ is;
          fault-outputs = λ j l. from₄ (768 + j) (omega arith) ∙ d.same j (rw lm l) ∙ rw rd.tabled (table_at _ j l);
          fault-targets = λ j l. from₅ (1024 + j) (omega arith) ∙ e.same j (rw ld l) ∙ rw rd.tabled (table_at _ j l);
          choices = λ j l.
              let is : get_or r.slots j 0 ≡ get_or (slots sh) j 1 = rw numbers.sizes (slots_at (slots sh) j (omega (arith, slot-count sh, rd.formed.few-open)) l) in
              ap (λ (v : ℕ). v + 1) (from₆ (1280 + j) (omega arith)) ∙ f.same j l (rw is (slot-some sh rd.formed j)) (rw is (slot-few sh rd.formed j)) ∙ is;
          states =
              get_or-set_other sized 1571 1312 site 0 (λ s. omega (arith, s))
              ∙ get_or-set_other (set (set m₉ 1312 size.states) 1313 size.inputs) 1314 1312 r.count 0 (λ s. omega (arith, s))
              ∙ get_or-set_other (set m₉ 1312 size.states) 1313 1312 size.inputs 0 (λ s. omega (arith, s))
              ∙ get_or-set_same m₉ 1312 size.states 0 (omega (arith, i.long)) ∙ states-are;
          inputs =
              get_or-set_other sized 1571 1313 site 0 (λ s. omega (arith, s))
              ∙ get_or-set_other (set (set m₉ 1312 size.states) 1313 size.inputs) 1314 1313 r.count 0 (λ s. omega (arith, s))
              ∙ get_or-set_same (set m₉ 1312 size.states) 1313 size.inputs 0 (omega (arith, length-set m₉ 1312 size.states, i.long)) ∙ inputs_are;
          count =
              get_or-set_other sized 1571 1314 site 0 (λ s. omega (arith, s))
              ∙ get_or-set_same (set (set m₉ 1312 size.states) 1313 size.inputs) 1314 r.count 0 (simp length-set (omega (arith, i.long)))
              ∙ numbers.many;
          waking-site = get_or-set_same sized 1571 site 0 (simp length-set (omega (arith, i.long))) ∙ waked ∙ rw waking-are (site-of (ltb 1 (waking_choices sh)));
          wakings = λ j l. from₈ (1572 + j) (inr (omega arith)) (λ s. omega (arith, s)) (omega arith) ∙ h.same j (rw lw l) ∙ rw rd.tabled (wakings-at sh j l);
        }
