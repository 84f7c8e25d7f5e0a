-- Words of logic that statements use.

-- X holds just where Y does.
abbrev pub Iff : Type 0 → Type 0 → Type 0
Iff X Y = (X → Y) × (Y → X)
