-- What is benched: document 01's queue, or a last-value cell of document 02, change 5.
pub data Object : Type 0 where
  Queue : Object
  Cell : Object
