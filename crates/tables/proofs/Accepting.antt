-- Acceptance of what the reading question's function answers: what it accepts is the table that the bytes say, and what it refuses is refused as listed.
-- Assumes nothing.
use mathlib.Core.Path.{◌≡◌, refl, ap}
use mathlib.Core.Logic.{◌≢◌}
use Prim.Native.Nat.{ℕ}
use Rattle.std.specs.Prelude.{Ok, Err}
use Rattle.rules.specs.Table.{Judged, accepted, refused, read, number_of as number_in, place_of, says}
use Rattle.rules.proofs.ListedCases.{in_listed_cases}
use Rattle.rules.proofs.Acceptance.{accepted_by_layout}
use Rattle.refusals.specs.Refusals.{number_of}
use Rattle.refusals.proofs.Told.{some_number}
use Rattle.tables.specs.declared.Outline.{Outline}
use Rattle.tables.specs.Accepting.{AcceptanceOfTheCode}
use Rattle.tables.proofs.Asked.{reading_accepted, reading_refused}

-- a number and a place that refuse are those of the refusal
refused_so : (j : Judged) {number place : ℕ} → number ≡ number_in j → place ≡ place_of j → number ≢ 0 → j ≡ refused number place
refused_so (accepted rs end) e at n = absurd (n e)
refused_so (refused number place) e at n = rw (e, at)

pub acceptance_of_the_code : AcceptanceOfTheCode
acceptance_of_the_code bytes (Ok t) p =
    let (a, own) = reading_accepted bytes t p in
    let (o, w) = (accepted_by_layout bytes (says bytes) p.2).0 (a, refl) in
    (says bytes, o, w, refl, ap (λ (x : Outline). x.routers) own, ap (λ (x : Outline). x.links) own)
acceptance_of_the_code bytes (Err r) p =
    let (n, e) = reading_refused bytes r p in (
      (in_listed_cases bytes (number_of r.reason) r.place).0
          (refused_so (read bytes) (ap (λ x. x.number) e) (ap (λ x. x.place) e) (some_number r.reason)),
      λ table o w. n ((accepted_by_layout bytes table p.2).1 (o, w)).0,
    )
