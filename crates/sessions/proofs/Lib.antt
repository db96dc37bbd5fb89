pub mod Numbered
pub mod HubCalls
pub mod Apart
pub mod SeatPlaces
pub mod Searches
pub mod HubSeats
