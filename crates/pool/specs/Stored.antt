-- A reply read as the answer to an order: it is stored, it failed, or the reply is none to an order.
pub data StoredIn : Type 0 where
  Stored : StoredIn
  Failed : StoredIn
  Other : StoredIn
