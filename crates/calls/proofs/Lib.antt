mod Carried
mod Lists
