-- How far the releases of one task have come: the tick of the next, its frame, and that none is left out.
use Rattle.std.proofs.Common.{◌≡◌, ℕ, suc, ◌+◌, ◌%◌, ◌≤◌, ◌<◌, List, [], ◌∷◌, length, get_or, set, refl, sym, ap, ◌∙◌, add-one, arith}
use native.Mathlib.Nat.{mod-eq_of_lt, mod-add-mod, mod-lt, add-zero, add-suc, suc-mul}
use lib.Seq.{get_or-set_same, get_or-set_other}
use Rattle.theory.specs.Tasks.{Task, frame_count, next_frame}
use Rattle.plays.specs.declared.Entry.{Entry}
use Rattle.worst.specs.declared.Series.{Series}
use Rattle.worst.specs.declared.Plan.{Plan}
use Rattle.worst.specs.Inside.Plans.{next_entry, behind, no_series, SoundSeries, plan_series, plan_task, plan_row}
use Rattle.worst.specs.Inside.Steps.{opens_at}
use Rattle.worst.proofs.Releases.{tick_of, Reached, reached_none, reached_later, reached_more}
use Rattle.worst.proofs.JobWork.{work_round}
use Rattle.worst.proofs.Counts.{release_entry, row_at, row_quiet}

-- a series behind c of its releases
abbrev pub after : Task → Series → ℕ → Series
after t series c = record { opens = tick_of series c; step = series.step; next = (series.next + c) % frame_count t; lock = series.lock }

series_by : {o s n l o' n' : ℕ} → o ≡ o' → n ≡ n' → ◌≡◌ {A = Series} (record { opens = o; step = s; next = n; lock = l }) (record { opens = o'; step = s; next = n'; lock = l })
series_by eo en = rw (eo, en) refl

-- the frame that follows, going round
following_round : (t : Task) (k : ℕ) → next_frame t (k % frame_count t) ≡ suc k % frame_count t
unfolding next_frame
following_round t k =
    ap (λ (x : ℕ). x % frame_count t) (sym (add-one (k % frame_count t))) ∙ mod-add-mod k (frame_count t) 1 ∙ ap (λ (x : ℕ). x % frame_count t) (add-one k)

module _ (t : Task) (series : Series) where
  after_none : series.next < frame_count t → series ≡ after t series 0
  after_none h = series_by (omega arith) (sym (ap (λ (x : ℕ). x % frame_count t) (add-zero series.next) ∙ mod-eq_of_lt h))

  after_more : (c : ℕ) → behind t (after t series c) ≡ after t series (suc c)
  unfolding behind
  after_more c = series_by (omega (arith, suc-mul c series.step)) (following_round t (series.next + c) ∙ ap (λ (x : ℕ). x % frame_count t) (sym (add-suc series.next c)))

-- the releases of task q before tick u are behind
pub record Stand (pl : Plan) (series : List Series) (u q : ℕ) : Type 0 where
  pub gone : ℕ
  pub here : get_or series q no_series ≡ after (plan_task pl q) (plan_series pl q) gone
  pub reached : Reached (plan_series pl q) u gone

-- its next entry
abbrev pub entry_now : Plan → List Series → ℕ → Entry
entry_now pl series q = next_entry q (plan_task pl q) (get_or series q no_series)

module _ (pl : Plan) (q : ℕ) (sound : SoundSeries pl.end (plan_task pl q) (plan_series pl q)) where
  -- before tick 0 every release is ahead
  pub stand_start : Stand pl pl.series 0 q
  stand_start = record { gone = 0; here = after_none (plan_task pl q) (plan_series pl q) sound.next_in; reached = reached_none (plan_series pl q) }

  module _ {series : List Series} {u : ℕ} (s : Stand pl series u q) where
    -- the tick of the next release
    pub stand_opens : opens_at series q ≡ tick_of (plan_series pl q) s.gone
    stand_opens = ap (λ (x : Series). x.opens) s.here

    -- step and lock are as planned
    pub stand_step : (get_or series q no_series).step ≡ (plan_series pl q).step
    stand_step = ap (λ (x : Series). x.step) s.here

    pub stand_lock : (get_or series q no_series).lock ≡ (plan_series pl q).lock
    stand_lock = ap (λ (x : Series). x.lock) s.here

    -- up to the tick of the next release it stays
    pub stand_later : (v : ℕ) → u ≤ v → v ≤ opens_at series q → Stand pl series v q
    stand_later v l m = record { gone = s.gone; here = s.here; reached = reached_later (plan_series pl q) l (omega (arith, stand_opens)) s.reached }

    -- before that tick nothing is released
    pub stand_quiet : (v : ℕ) → u ≤ v → v < opens_at series q → plan_row pl v q ≡ []
    stand_quiet v l m = row_quiet pl q sound s.reached v l (omega (arith, stand_opens))

    -- the frame of the next job is a frame
    pub stand_in : (get_or series q no_series).next < frame_count (plan_task pl q)
    stand_in = rw s.here (mod-lt ((plan_series pl q).next + s.gone) (omega (arith, sound.next_in)))

    next_is : release_entry pl q s.gone ≡ entry_now pl series q
    unfolding next_entry
    next_is =
        let work = work_round (plan_task pl q) ((plan_series pl q).next + s.gone) (plan_series pl q).lock in
        rw s.here (ap (λ (w : ℕ). let e : Entry = record { task = q; tick = tick_of (plan_series pl q) s.gone; work = w; lock = (plan_series pl q).lock } in e) (sym work))

    -- at that tick the row of the task is its next entry
    pub stand_row : plan_row pl (opens_at series q) q ≡ entry_now pl series q ∷ []
    stand_row = ap (λ (v : ℕ). plan_row pl v q) stand_opens ∙ row_at pl q sound s.gone ∙ ap (λ (e : Entry). e ∷ []) next_is

    -- behind that entry
    pub stand_moved : q < length series → u ≡ opens_at series q → Stand pl (set series q (behind (plan_task pl q) (get_or series q no_series))) (suc u) q
    stand_moved l eu =
        record {
          gone = suc s.gone;
          here = get_or-set_same series q (behind (plan_task pl q) (get_or series q no_series)) no_series l ∙ ap (behind (plan_task pl q)) s.here ∙ after_more (plan_task pl q) (plan_series pl q) s.gone;
          reached = reached_more (plan_series pl q) sound.step_positive (omega (arith, stand_opens)) s.reached;
        }

-- an entry of another task leaves it
pub stand_other : {pl : Plan} {series : List Series} {u q : ℕ} (i : ℕ) (x : Series) → (q ≡ i → ⊥) → Stand pl series u q → Stand pl (set series i x) u q
stand_other {series = series} {q = q} i x n s = record { gone = s.gone; here = get_or-set_other series i q x no_series n ∙ s.here; reached = s.reached }
