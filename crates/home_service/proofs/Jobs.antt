-- Clients that were served by their seats, from the jobs that were served.
use Rattle.std.proofs.Common.{◌≡◌, ℕ, Bool, List, [], ◌∷◌, ◌++◌, map, length, Option, None, Some, refl, sym, ap, ◌∙◌, subst, arith}
use Rattle.std.specs.List.{AllByRecursion, AllZip}
use Rattle.request_loop.specs.Exchange.{Exchange}
use Rattle.request_loop.specs.declared.serve.LoopEnd.{LoopEnd}
use Rattle.client_output.specs.Grown.{SeatSeen, Grew}
use Rattle.client_output.specs.Seats.{BareSeat}
use Rattle.client_output.proofs.Growing.{grew_none}
use Rattle.client_lines.specs.Seats.{Answered, bare_at, seen_at}
use Rattle.client_threads.specs.Lines.{ServesLines}
use Rattle.client_threads.specs.declared.line_job.LineJob.{LineJob}
use Rattle.run_desk.specs.declared.desk.Client.{Client}
use Rattle.home_service.specs.Seats.{client_of, SeatServing, ServesSeat, ServesSeats}

-- what is in an option, where it is a list
abbrev list_in : {A : Type 0} → Option (List A) → List A
list_in None = []
list_in (Some xs) = xs

-- the first of a list of options
abbrev head_in : {A : Type 0} → List (Option A) → Option A
head_in [] = None
head_in (x ∷ xs) = x

-- the list without its first element
abbrev rest_of : {A : Type 0} → List A → List A
rest_of [] = []
rest_of (x ∷ xs) = xs

module _ {S K C V T N : Type 0} (left : S → Option (List ℕ)) (taken source_faults : S → ℕ)
    (written : K → Option (List ℕ)) (sink_faults : K → ℕ) (given : C → Option (List ℕ))
    (pins : N → Bool) (seen : N → T → SeatSeen) (bare : T → List (Option BareSeat))
    (home_in : V → N) (seat_in : V → Option T) where
  -- the service answered these lines by its seat
  abbrev AnsweredBy : V → V → List Exchange → Type 0
  AnsweredBy start now lines = (home_in now ≡ home_in start)
      × Answered (seen (home_in start)) bare (pins (home_in start)) (seat_in start) (seat_in now) lines

  -- a job was served
  abbrev pub ServesJob : LineJob S K C V → LineJob S K C V → Type 0
  ServesJob = ServesLines left taken source_faults written sink_faults given AnsweredBy

  -- one client, served by its seat
  abbrev serving_of : LineJob S K C V → LineJob S K C V → T → T → List Exchange → SeatServing T S K C
  serving_of before after first last exchanges = record {
    end = after.end;
    exchanges = exchanges;
    before = client_of before;
    after = client_of after;
    first = first;
    last = last;
  }

  serves_one : (home : N) (before after : LineJob S K C V) (first last : T)
      → (serves : ServesJob before after)
      → home_in before.service ≡ home
      → seat_in before.service ≡ Some first
      → seat_in after.service ≡ Some last
      → ServesSeat left taken source_faults written sink_faults given (pins home) (seen home) bare
      (serving_of before after first last serves.exchanges)
  serves_one home before after first last serves home_is first_is last_is =
      let none : AnsweredBy before.service before.service [] = (
        refl,
        record {
          same = refl;
          grew = grew_none (pins (home_in before.service))
              (seen_at (seen (home_in before.service)) (seat_in before.service));
        },
      ) in
      let own = (serves.served.answered before.service [] none).1 in
      record {
        loop = record {
          earlier = serves.served.earlier;
          moments = serves.served.moments;
          lines = serves.served.lines;
          replies = serves.served.written;
          limit = serves.limit;
          most = serves.most;
          source_cause = serves.source_cause;
          sink_cause = serves.sink_cause;
        };
        same = ap list_in (sym (ap (bare_at bare) last_is) ∙ own.same ∙ ap (bare_at bare) first_is);
        grew = subst (λ (s : Option T). Grew (pins home) (seen home first) (seen_at (seen home) s) serves.exchanges)
            last_is
            (subst (λ (s : Option T). Grew (pins home) (seen_at (seen home) s)
            (seen_at (seen home) (seat_in after.service)) serves.exchanges) first_is
            (subst (λ (h : N). Grew (pins h) (seen_at (seen h) (seat_in before.service))
            (seen_at (seen h) (seat_in after.service)) serves.exchanges) home_is own.grew));
      }

  -- all clients, in their order
  pub serves_seats : (home : N) (old new : List (LineJob S K C V)) (firsts lasts : List T)
      → AllZip ServesJob old new
      → AllByRecursion (λ job. home_in job.service ≡ home) old
      → map (λ job. seat_in job.service) old ≡ map Some firsts
      → map (λ job. seat_in job.service) new ≡ map Some lasts
      → ServesSeats left taken source_faults written sink_faults given (pins home) (seen home) bare
      (map (λ job. job.end) new) (map client_of old) (map client_of new) firsts lasts
  serves_seats home [] [] [] [] serves homes firsts_are lasts_are = record {
    servings = [];
    ended_is = refl;
    befores_are = refl;
    afters_are = refl;
    firsts_are = refl;
    lasts_are = refl;
    each = tt;
  }
  serves_seats home [] [] (first ∷ firsts) lasts serves homes firsts_are lasts_are =
      absurd (omega (arith, ap length firsts_are))
  serves_seats home [] [] [] (last ∷ lasts) serves homes firsts_are lasts_are =
      absurd (omega (arith, ap length lasts_are))
  serves_seats home [] (after ∷ new) firsts lasts serves homes firsts_are lasts_are = absurd serves
  serves_seats home (before ∷ old) [] firsts lasts serves homes firsts_are lasts_are = absurd serves
  serves_seats home (before ∷ old) (after ∷ new) [] lasts serves homes firsts_are lasts_are =
      absurd (omega (arith, ap length firsts_are))
  serves_seats home (before ∷ old) (after ∷ new) (first ∷ firsts) [] serves homes firsts_are lasts_are =
      absurd (omega (arith, ap length lasts_are))
  serves_seats home (before ∷ old) (after ∷ new) (first ∷ firsts) (last ∷ lasts) serves homes firsts_are lasts_are =
      let rest = serves_seats home old new firsts lasts serves.1 homes.1 (ap rest_of firsts_are)
      (ap rest_of lasts_are) in
      let one = serving_of before after first last serves.0.exchanges in
      record {
        servings = one ∷ rest.servings;
        ended_is = ap (λ (ends : List LoopEnd). after.end ∷ ends) rest.ended_is;
        befores_are = ap (λ (clients : List (Client S K C)). client_of before ∷ clients) rest.befores_are;
        afters_are = ap (λ (clients : List (Client S K C)). client_of after ∷ clients) rest.afters_are;
        firsts_are = ap (λ (seats : List T). first ∷ seats) rest.firsts_are;
        lasts_are = ap (λ (seats : List T). last ∷ seats) rest.lasts_are;
        each = (
          serves_one home before after first last serves.0 homes.0 (ap head_in firsts_are) (ap head_in lasts_are),
          rest.each,
        );
      }

  -- All clients, by what their jobs were made of, and by what was taken out of them. The jobs were made behind none, and
  -- taken apart behind none.
  pub serves_clients : (home : N) (before old lent new apart : List (LineJob S K C V))
      (befores afters left_clients : List (Client S K C)) (firsts lasts left_seats : List T)
      → AllZip ServesJob lent new
      → lent ≡ old
      → apart ≡ new
      → before ≡ []
      → left_clients ≡ []
      → left_seats ≡ []
      → (AllByRecursion (λ job. home_in job.service ≡ home) before
      → AllByRecursion (λ job. home_in job.service ≡ home) old)
      → map client_of old ≡ map client_of before ++ befores
      → map (λ job. seat_in job.service) old ≡ map (λ job. seat_in job.service) before ++ map Some firsts
      → afters ≡ left_clients ++ map client_of apart
      → map Some lasts ≡ map Some left_seats ++ map (λ job. seat_in job.service) apart
      → ServesSeats left taken source_faults written sink_faults given (pins home) (seen home) bare
      (map (λ job. job.end) new) befores afters firsts lasts
  serves_clients home before old lent new apart befores afters left_clients firsts lasts left_seats serves lent_is
      apart_is none no_clients no_seats homes befores_are firsts_are afters_are lasts_are =
      let all = serves_seats home old new firsts lasts
      (subst (λ (jobs : List (LineJob S K C V)). AllZip ServesJob jobs new) lent_is serves)
      (homes (subst (AllByRecursion (λ (job : LineJob S K C V). home_in job.service ≡ home)) (sym none) tt))
      (firsts_are ∙ ap (λ (jobs : List (LineJob S K C V)). map (λ job. seat_in job.service) jobs ++ map Some firsts)
      none)
      (sym (lasts_are ∙ (λ i. map Some (no_seats i) ++ map (λ job. seat_in job.service) (apart_is i)))) in
      record {
        servings = all.servings;
        ended_is = all.ended_is;
        befores_are = sym (befores_are ∙ ap (λ (jobs : List (LineJob S K C V)). map client_of jobs ++ befores) none)
            ∙ all.befores_are;
        afters_are = afters_are ∙ (λ i. no_clients i ++ map client_of (apart_is i)) ∙ all.afters_are;
        firsts_are = all.firsts_are;
        lasts_are = all.lasts_are;
        each = all.each;
      }
