-- What a walk along the mentions keeps.
use Rattle.std.proofs.Common.{◌≡◌, ◌⊎◌, inl, inr, ℕ, ◌<◌, ◌≤◌, Bool, true, false, true≢false, ◌||◌, List, [], ◌∷◌, ◌++◌, nat_eq, length, Option, Some, None, MatchOption, arith, refl, sym, ap, subst, ◌∙◌}
use Rattle.std.specs.Bool.{⊤}
use Rattle.std.proofs.lemmas.Bool.{eq-eqb, eqb-true}
use Rattle.std.proofs.lemmas.List.Folds.{list_any-append}
use Rattle.sx_span.specs.declared.places.Node.{Node}
use Rattle.sx_typed.specs.declared.program.Typed.{Typed}
use Rattle.sx_late.specs.Mentions.{Mentions, function_mentions}
use Rattle.sx_late.specs.Reaching.{IsMentioned, Reaches, itself, through}
use Rattle.sx_late.specs.Walking.{is_seen, IsSeen, IsPassed, IsDone, AreDone, IsFollowed, IsLeastReached, IsWalk, Passes, Visits, TurnIs}
use Rattle.sx_late.specs.declared.mentions.Mentioned.{Mentioned}
use Rattle.sx_late.specs.declared.mentions.Mentioned.TheVariants.{Function, Global}
use Rattle.sx_late.proofs.Leads.{none_mentioned, in_right, in_left, left_or_right, alone, here, leads_from}

-- ---- one more function is seen
module _ (seen : List ℕ) (k : Node) where
  seen_more : (x : ℕ) → is_seen (seen ++ x ∷ []) k ≡ (is_seen seen k || (nat_eq k.0 x || false))
  seen_more x = list_any-append (nat_eq k.0) seen (x ∷ [])

  pub seen_still : (x : ℕ) → IsSeen seen k → IsSeen (seen ++ x ∷ []) k
  seen_still x is = seen_more x ∙ ap (λ b. b || (nat_eq k.0 x || false)) is

  or_true : (b : Bool) → (b || true) ≡ true
  or_true true = refl
  or_true false = refl

  pub seen_here : (x : ℕ) → k.0 ≡ x → IsSeen (seen ++ x ∷ []) k
  seen_here x e = seen_more x ∙ ap (λ b. is_seen seen k || (b || false)) (eq-eqb k.0 x e) ∙ or_true (is_seen seen k)

  pub seen_or_here : (x : ℕ) → IsSeen (seen ++ x ∷ []) k → IsSeen seen k ⊎ (k.0 ≡ x)
  seen_or_here x is = by (is_seen seen k) refl (nat_eq k.0 x) refl
    where
      by : (b : Bool) → is_seen seen k ≡ b → (c : Bool) → nat_eq k.0 x ≡ c → IsSeen seen k ⊎ (k.0 ≡ x)
      by true h c e = inl h
      by false h true e = inr (eqb-true k.0 x e)
      by false h false e = absurd (true≢false (sym is ∙ seen_more x ∙ ap (λ b. b || (nat_eq k.0 x || false)) h ∙ ap (λ b. b || false) e))

-- ---- what was done stays done
module _ (count : ℕ) (seen after : List ℕ) (declared later : ℕ) (least lower : Option ℕ) (more : (m : Mentioned) → IsDone count seen declared least m → IsDone count after later lower m) where
  pub still_done : (work left ms : Mentions) → ((m : Mentioned) → IsMentioned work m → IsMentioned left m ⊎ IsDone count after later lower m) → AreDone count seen declared least work ms → AreDone count after later lower left ms
  still_done work left ms keeps are m is = by (are m is)
    where
      by : IsMentioned work m ⊎ IsDone count seen declared least m → IsMentioned left m ⊎ IsDone count after later lower m
      by (inl there) = keeps m there
      by (inr done) = inr (more m done)

pub done_later : (count : ℕ) (seen : List ℕ) (declared later : ℕ) → declared ≤ later → (m : Mentioned) → IsDone count seen declared None m → IsDone count seen later None m
done_later count seen declared later h (Function n) is = is
done_later count seen declared later h (Global g) (inl less) = inl (omega arith)
done_later count seen declared later h (Global g) (inr none) = inr none

pub followed_later : (typed : Typed) (seen : List ℕ) (declared later : ℕ) → declared ≤ later → IsFollowed typed seen declared None [] → IsFollowed typed seen later None []
followed_later typed seen declared later h are n is =
    still_done (length typed.globals) seen seen declared later None None (done_later (length typed.globals) seen declared later h) [] [] (function_mentions typed n) (λ m there. absurd (none_mentioned m there)) (are n is)

-- ---- a walk begins
pub walk_begins : (typed : Typed) (ms : Mentions) (declared : ℕ) (seen : List ℕ) → IsFollowed typed seen declared None [] → IsWalk typed ms declared seen None ms
walk_begins typed ms declared seen are = record {
  begun = λ m is. inl is;
  followed = λ n is. still_done (length typed.globals) seen seen declared declared None None (λ m done. done) [] ms (function_mentions typed n) (λ m there. absurd (none_mentioned m there)) (are n is);
  leads = λ m is g reaches. leads_from typed ms m g is reaches;
  found = tt;
}

-- ---- a turn
module _ (typed : Typed) (ms : Mentions) (declared : ℕ) (seen : List ℕ) (least : Option ℕ) (work : Mentions) (m : Mentioned) (walk : IsWalk typed ms declared seen least (work ++ m ∷ [])) where
  -- what is mentioned was done already
  popped : (after : List ℕ) (lower : Option ℕ) → IsDone (length typed.globals) after declared lower m → (k : Mentioned) → IsMentioned (work ++ m ∷ []) k → IsMentioned work k ⊎ IsDone (length typed.globals) after declared lower k
  popped after lower done k is = by (left_or_right work (m ∷ []) k is)
    where
      by : IsMentioned work k ⊎ IsMentioned (m ∷ []) k → IsMentioned work k ⊎ IsDone (length typed.globals) after declared lower k
      by (inl there) = inl there
      by (inr last) = inr (subst (λ x. IsDone (length typed.globals) after declared lower x) (alone m k last) done)

  leads_still : (k : Mentioned) → IsMentioned work k → (g : ℕ) → Reaches typed (k ∷ []) g → Reaches typed ms g
  leads_still k is = walk.leads k (in_left work (m ∷ []) k is)

  last : IsMentioned (work ++ m ∷ []) m
  last = in_right work (m ∷ []) m (here m)

  pub was_done : IsDone (length typed.globals) seen declared least m → IsWalk typed ms declared seen least work
  was_done done = record {
    begun = still_done (length typed.globals) seen seen declared declared least least (λ k was. was) (work ++ m ∷ []) work ms (popped seen least done) walk.begun;
    followed = λ n is. still_done (length typed.globals) seen seen declared declared least least (λ k was. was) (work ++ m ∷ []) work (function_mentions typed n) (popped seen least done) (walk.followed n is);
    leads = leads_still;
    found = walk.found;
  }

-- a lower global is reached
module _ (count declared : ℕ) (seen : List ℕ) (least : Option ℕ) (g : ℕ) (new : ¬ IsPassed count declared least g) where
  passed_more : (o : Option ℕ) → o ≡ least → (h : ℕ) → IsPassed count declared o h → IsPassed count declared (Some g) h
  passed_more o same h (inl less) = inl less
  passed_more None same h (inr none) = inr (by (λ under. new (subst (λ o. IsPassed count declared o g) same (inr under))))
    where
      by : ¬ (count ≤ g) → g ≤ h
      by over = grind (arith, over, none)
  passed_more (Some l) same h (inr le) = inr (by (l_over l same))
    where
      l_over : (l : ℕ) → Some l ≡ least → ¬ (l ≤ g)
      l_over l same under = new (subst (λ o. IsPassed count declared o g) same (inr under))

      by : ¬ (l ≤ g) → g ≤ h
      by over = grind (arith, over)

  pub done_lower : (m : Mentioned) → IsDone count seen declared least m → IsDone count seen declared (Some g) m
  done_lower (Function n) is = is
  done_lower (Global h) is = passed_more least refl h is

  pub at_or_after : declared ≤ g
  at_or_after = let over : ¬ (g < declared) = (λ less. new (inl less)) in grind (arith, over)

-- it is one of the program's
below : (count declared : ℕ) (least : Option ℕ) (g : ℕ) → MatchOption least ⊤ (λ l. l < count) → ¬ IsPassed count declared least g → g < count
below count declared None g found new = let over : ¬ (count ≤ g) = (λ under. new (inr under)) in grind (arith, over)
below count declared (Some l) g found new = let over : ¬ (l ≤ g) = (λ under. new (inr under)) in grind (arith, over, found)

pub lower_found : (typed : Typed) (ms : Mentions) (declared : ℕ) (seen : List ℕ) (least : Option ℕ) (work : Mentions) (g : ℕ)
    → IsWalk typed ms declared seen least (work ++ Global g ∷ []) → ¬ IsPassed (length typed.globals) declared least g → IsWalk typed ms declared seen (Some g) work
lower_found typed ms declared seen least work g walk new = record {
  begun = still_done (length typed.globals) seen seen declared declared least (Some g) (done_lower (length typed.globals) declared seen least g new) (work ++ Global g ∷ []) work ms pops walk.begun;
  followed = λ n is. still_done (length typed.globals) seen seen declared declared least (Some g) (done_lower (length typed.globals) declared seen least g new) (work ++ Global g ∷ []) work (function_mentions typed n) pops (walk.followed n is);
  leads = leads_still typed ms declared seen least work (Global g) walk;
  found = (walk.leads (Global g) (last typed ms declared seen least work (Global g) walk) g (itself (Global g ∷ []) g (here (Global g))), at_or_after (length typed.globals) declared seen least g new, below (length typed.globals) declared least g (few least walk.found) new);
}
  where
    pops : (k : Mentioned) → IsMentioned (work ++ Global g ∷ []) k → IsMentioned work k ⊎ IsDone (length typed.globals) seen declared (Some g) k
    pops = popped typed ms declared seen least work (Global g) walk seen (Some g) (inr (omega arith))

    few : (o : Option ℕ) → MatchOption o ⊤ (λ l. Reaches typed ms l × (declared ≤ l) × (l < length typed.globals)) → MatchOption o ⊤ (λ l. l < length typed.globals)
    few None found = tt
    few (Some l) found = found.2

-- a function is seen
module _ (typed : Typed) (ms : Mentions) (declared : ℕ) (seen : List ℕ) (least : Option ℕ) (work : Mentions) (n : Node) (walk : IsWalk typed ms declared seen least (work ++ Function n ∷ [])) where
  abbrev after : List ℕ
  after = seen ++ n.0 ∷ []

  abbrev left : Mentions
  left = work ++ function_mentions typed n

  done_still : (m : Mentioned) → IsDone (length typed.globals) seen declared least m → IsDone (length typed.globals) after declared least m
  done_still (Function k) is = seen_still seen k n.0 is
  done_still (Global g) is = is

  follows : (m : Mentioned) → IsMentioned (work ++ Function n ∷ []) m → IsMentioned left m ⊎ IsDone (length typed.globals) after declared least m
  follows m is = by (popped typed ms declared seen least work (Function n) walk after least (seen_here seen n n.0 refl) m is)
    where
      by : IsMentioned work m ⊎ IsDone (length typed.globals) after declared least m → IsMentioned left m ⊎ IsDone (length typed.globals) after declared least m
      by (inl there) = inl (in_left work (function_mentions typed n) m there)
      by (inr done) = inr done

  same_body : (k : Node) → k.0 ≡ n.0 → function_mentions typed n ≡ function_mentions typed k
  same_body k e = ap (λ (x : ℕ). function_mentions typed (record { 0 = x })) (sym e)

  pub function_seen : IsWalk typed ms declared after least left
  function_seen = record {
    begun = still_done (length typed.globals) seen after declared declared least least done_still (work ++ Function n ∷ []) left ms follows walk.begun;
    followed = λ k is. by k (seen_or_here seen k n.0 is);
    leads = λ m is. further m (left_or_right work (function_mentions typed n) m is);
    found = walk.found;
  }
    where
      by : (k : Node) → IsSeen seen k ⊎ (k.0 ≡ n.0) → AreDone (length typed.globals) after declared least left (function_mentions typed k)
      by k (inl is) = still_done (length typed.globals) seen after declared declared least least done_still (work ++ Function n ∷ []) left (function_mentions typed k) follows (walk.followed k is)
      by k (inr e) = λ m is. inl (in_right work (function_mentions typed n) m (subst (λ ms. IsMentioned ms m) (sym (same_body k e)) is))

      further : (m : Mentioned) → IsMentioned work m ⊎ IsMentioned (function_mentions typed n) m → (g : ℕ) → Reaches typed (m ∷ []) g → Reaches typed ms g
      further m (inl there) = leads_still typed ms declared seen least work (Function n) walk m there
      further m (inr is) = λ g reaches. walk.leads (Function n) (last typed ms declared seen least work (Function n) walk) g (through (Function n ∷ []) n g (here (Function n)) (leads_from typed (function_mentions typed n) m g is reaches))

-- ---- a turn of either kind
module _ (typed : Typed) (ms : Mentions) (declared : ℕ) (seen : List ℕ) (least : Option ℕ) (work : Mentions) (after : List ℕ) (lower : Option ℕ) (left : Mentions) where
  visited : (n : Node) → IsWalk typed ms declared seen least (work ++ Function n ∷ []) → Visits typed n seen work after left → IsWalk typed ms declared after least left
  visited n walk (inl was) = rw (was.1, was.2) (was_done typed ms declared seen least work (Function n) walk was.0)
  visited n walk (inr new) = rw (new.1, new.2) (function_seen typed ms declared seen least work n walk)

  passed : (g : ℕ) → IsWalk typed ms declared seen least (work ++ Global g ∷ []) → Passes (length typed.globals) declared g least lower → IsWalk typed ms declared seen lower work
  passed g walk (inl was) = rw was.1 (was_done typed ms declared seen least work (Global g) walk was.0)
  passed g walk (inr new) = rw new.1 (lower_found typed ms declared seen least work g walk new.0)

  pub after_turn : (m : Mentioned) → IsWalk typed ms declared seen least (work ++ m ∷ []) → TurnIs typed declared m seen work least after left lower → IsWalk typed ms declared after lower left
  after_turn (Function n) walk turn = rw turn.1 (visited n walk turn.0)
  after_turn (Global g) walk turn = rw (turn.0, turn.1) (passed g walk turn.2)

-- ---- a walk ends
module _ (typed : Typed) (ms : Mentions) (declared : ℕ) (seen : List ℕ) (least : Option ℕ) (walk : IsWalk typed ms declared seen least []) where
  all_done : (ks : Mentions) → AreDone (length typed.globals) seen declared least [] ks → (m : Mentioned) → IsMentioned ks m → IsDone (length typed.globals) seen declared least m
  all_done ks are m is = by (are m is)
    where
      by : IsMentioned [] m ⊎ IsDone (length typed.globals) seen declared least m → IsDone (length typed.globals) seen declared least m
      by (inl there) = absurd (none_mentioned m there)
      by (inr done) = done

  all_passed : (ks : Mentions) (g : ℕ) → Reaches typed ks g → ((m : Mentioned) → IsMentioned ks m → IsDone (length typed.globals) seen declared least m) → IsPassed (length typed.globals) declared least g
  all_passed ks g (itself _ _ is) done = done (Global g) is
  all_passed ks g (through _ n _ is rest) done = all_passed (function_mentions typed n) g rest (all_done (function_mentions typed n) (walk.followed n (done (Function n) is)))

  pub reached_passed : (g : ℕ) → Reaches typed ms g → IsPassed (length typed.globals) declared least g
  reached_passed g reaches = all_passed ms g reaches (all_done ms walk.begun)

pub least_reached : (typed : Typed) (ms : Mentions) (declared : ℕ) (seen : List ℕ) (least : Option ℕ) → IsWalk typed ms declared seen least [] → IsLeastReached typed ms declared least
least_reached typed ms declared seen None walk = λ g reaches. reached_passed typed ms declared seen None walk g reaches
least_reached typed ms declared seen (Some l) walk = (walk.found.0, walk.found.1, walk.found.2, λ g reaches at. by g at (reached_passed typed ms declared seen (Some l) walk g reaches))
  where
    by : (g : ℕ) → declared ≤ g → IsPassed (length typed.globals) declared (Some l) g → l ≤ g
    by g at (inl less) = absurd (omega arith)
    by g at (inr le) = le
