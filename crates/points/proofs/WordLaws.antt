-- What the words of a place mean, by whether it is at rest, a question or a point. Assumes nothing.
use Rattle.std.proofs.Common.{◌≡◌, true, false, arith}
use Rattle.points.specs.declared.at.At.{At}
use Rattle.points.specs.declared.at.At.TheVariants as at
use Rattle.points.specs.declared.at.Ask.{Ask}
use Rattle.points.specs.declared.at.Point.{Point}
use Rattle.points.specs.declared.words.Place.{Place}
use Rattle.points.specs.declared.words.Place.TheVariants as place
use Rattle.points.specs.declared.words.Where.{Where}
use Rattle.points.specs.Words.{place_of, place_asks, place_runs, ask_of, point_of, at_by, at_of}

pub at_rest : (w : Where) → place_of w.place ≡ place.Rest → at_of w ≡ at.Rest
unfolding at_of
at_rest w is = rw is

pub at_asks : (w : Where) → place_asks (place_of w.place) ≡ true → at_of w ≡ at.Asks (ask_of w)
unfolding at_of
at_asks w is = grind arith

pub at_runs : (w : Where) → place_runs (place_of w.place) ≡ true → at_of w ≡ at.Runs (point_of w)
unfolding at_of
at_runs w is = grind arith

-- a place that is no point is at rest or a question
pub at_stays : {A : Type 0} (w : Where) (f : At → A) (a : A) → place_runs (place_of w.place) ≡ false → f at.Rest ≡ a
    → ((q : Ask) → f (at.Asks q) ≡ a) → f (at_of w) ≡ a
unfolding at_of
at_stays w f a is rests asks = by_place (place_of w.place) is
  where
    by_place : (p : Place) → place_runs p ≡ false → f (at_by p w) ≡ a
    by_place p e = grind (arith, rests, asks)

-- a place that is no question is at rest or a point
pub at_unasked : {A : Type 0} (w : Where) (f : At → A) (a : A) → place_asks (place_of w.place) ≡ false → f at.Rest ≡ a
    → ((p : Point) → f (at.Runs p) ≡ a) → f (at_of w) ≡ a
unfolding at_of
at_unasked w f a is rests runs = by_place (place_of w.place) is
  where
    by_place : (p : Place) → place_asks p ≡ false → f (at_by p w) ≡ a
    by_place p e = grind (arith, rests, runs)
