-- What the pool shows of messages: the entries' parts of the body store.
use Rattle.std.specs.Prelude.{List, [], ◌∷◌, ℕ, Some}
use Rattle.text.specs.Format.{Message}
use Rattle.lists.specs.Links.{Table}
use Rattle.actor.specs.Part.{Shows}

-- these entries show these messages, one by one: each entry's part of the body store is the message's name and body
abbrev pub ShowAll : List ℕ → Table → List ℕ → List Message → Type 0
ShowAll store rows [] [] = Unit
ShowAll store rows [] (m ∷ ms) = ⊥
ShowAll store rows (e ∷ es) [] = ⊥
ShowAll store rows (e ∷ es) (m ∷ ms) = Shows store rows (Some e) m.name m.body × ShowAll store rows es ms
